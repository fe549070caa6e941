use Rattle.std.proofs.Common.{false, refl, sym, ap, ◌∙◌}
use Rattle.client_table.specs.Entries.{entry}
use Rattle.client_table.proofs.Answering.{again_kept, again_none}
use Rattle.client_table.proofs.table.answer_again.Goals as goal
use Rattle.messages.specs.MessageAnswers.{with_answer}
use Rattle.messages.specs.Rounds.{round_in}
use Rattle.prevalence_store.proofs.steps.Taking.{ok_on}

pub returns-in-Whole-clause-answered : goal.returns-in-Whole-clause-answered
returns-in-Whole-clause-answered c =
    ok_on c.tell.result (λ told s.
    told s ∙ ap (λ t. with_answer t false (round_in c.args.round.now s))
    (sym (again_kept (entry c.args.world.now.0 c.args.name.now) c.find_entry.result c.in-Some.entry _ _ c.find_entry.ensures c.in-Some.is c.in-Whole.is refl))) c.tell.ensures.answered

pub returns-in-Count-clause-answered : goal.returns-in-Count-clause-answered
returns-in-Count-clause-answered c =
    ok_on c.refuse.result (λ told s.
    told s ∙ ap (λ t. with_answer t false (round_in c.args.round.now s))
    (sym (again_kept (entry c.args.world.now.0 c.args.name.now) c.find_entry.result c.in-Some.entry _ _ c.find_entry.ensures c.in-Some.is c.in-Count.is refl))) c.refuse.ensures.answered

pub returns-in-None-clause-answered : goal.returns-in-None-clause-answered
returns-in-None-clause-answered c =
    ok_on c.tell-in-None.result (λ told s.
    told s ∙ ap (λ t. with_answer t false (round_in c.args.round.now s))
    (sym (again_none (entry c.args.world.now.0 c.args.name.now) c.find_entry.result c.find_entry.ensures c.in-None.is))) c.tell-in-None.ensures.answered
