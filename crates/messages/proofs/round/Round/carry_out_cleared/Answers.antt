use Rattle.std.proofs.Common.{subst, sym, ◌∙◌}
use Rattle.session_words.specs.declared.mode.Mode.TheVariants as mode
use Rattle.prevalence_store.specs.meaning.Acceptance.{accepts}
use Rattle.messages.specs.Rounds.{MayBeLogged, round_in}
use Rattle.messages.proofs.Making.{given_made, given_round}
use Rattle.prevalence_store.proofs.steps.Taking.{ok_on}
use Rattle.messages.proofs.round.Round.carry_out_cleared.Goals as goal

pub returns-clause-answered : goal.returns-clause-answered
returns-clause-answered g c =
    let w = c.args.world.now.0 in
    let v = c.add_text.new.world.0 in
    let given = accepts g.R.Meaning.Meaning.functions w mode.Current c.args.text.now in
    ok_on c.push.result (λ pushed.
    pushed v ∙ given_round c.args.self.now c.add_text.new.self c.in-Ok.outcome w v given c.args.number c.in-Ok-text_of_outcome.answer.items c.record_count-kept.result c.record_count.result c.either-self.result
    c.record_count-kept.ensures c.record_count.ensures c.either-self.ensures c.in-Ok.ensures.turn c.in-Ok-text_of_outcome.ensures) c.push.ensures.pushed

pub returns-clause-made : goal.returns-clause-made
returns-clause-made g c =
    let functions = g.R.Meaning.Meaning.functions in
    let w = c.args.world.now.0 in
    let v = c.add_text.new.world.0 in
    let given = accepts functions w mode.Current c.args.text.now in
    ok_on c.push.result (λ pushed first made.
    subst (MayBeLogged functions first) (sym (pushed v ∙ given_round c.args.self.now c.add_text.new.self c.in-Ok.outcome w v given c.args.number c.in-Ok-text_of_outcome.answer.items c.record_count-kept.result c.record_count.result c.either-self.result
    c.record_count-kept.ensures c.record_count.ensures c.either-self.ensures c.in-Ok.ensures.turn c.in-Ok-text_of_outcome.ensures))
    (given_made functions first (round_in c.args.self.now w) made c.args.number c.args.text.now)) c.push.ensures.pushed
