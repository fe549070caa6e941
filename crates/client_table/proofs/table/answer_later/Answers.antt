use Rattle.std.proofs.Common.{List, Option, ℕ, sym, ap, subst, ◌∙◌}
use Rattle.std.specs.Prelude.{option_map}
use Rattle.std.proofs.lemmas.Result.{IfErr-weaker}
use Rattle.client_table.specs.Steps.{RefusesMessageAt}
use Rattle.client_table.specs.Told.{form_told}
use Rattle.client_table.proofs.Answering.{keeps_form, keeps_gone, later_form, later_gone, memory_only}
use Rattle.client_table.proofs.table.answer_later.Goals as goal
use Rattle.messages.specs.Rounds.{IfRefused, round_in}
use Rattle.prevalence_store.proofs.steps.Taking.{ok_on}

-- ---- it has a form

pub returns-in-Some-clause-answered : goal.returns-in-Some-clause-answered
returns-in-Some-clause-answered g c =
    let message = c.args.message in
    ok_on c.keep_answer.result (later_form g.R.Meaning.Meaning.functions message.number message.name.now (form_told message) c.in-Some.form.now (round_in c.args.round.now c.args.world.now.0)
    (round_in c.keep_answer.new.round c.keep_answer.new.world.0) (ap (option_map (λ form. form.now)) c.in-Some.is)) c.keep_answer.ensures.answered

pub returns-in-Some-clause-kept : goal.returns-in-Some-clause-kept
returns-in-Some-clause-kept g c =
    let message = c.args.message in
    ok_on c.keep_answer.result (keeps_form message.number message.name.now (form_told message) c.in-Some.form.now (round_in c.args.round.now c.args.world.now.0)
    (round_in c.keep_answer.new.round c.keep_answer.new.world.0) (ap (option_map (λ form. form.now)) c.in-Some.is)) c.keep_answer.ensures.kept

pub returns-in-Some-clause-refused : goal.returns-in-Some-clause-refused
returns-in-Some-clause-refused g c = memory_only c.keep_answer.result _ c.keep_answer.ensures.refused

-- ---- its client goes

pub returns-in-None-clause-answered : goal.returns-in-None-clause-answered
returns-in-None-clause-answered g c =
    let message = c.args.message in
    ok_on c.take_out.result (later_gone g.R.Meaning.Meaning.functions message.number message.name.now (form_told message) (round_in c.args.round.now c.args.world.now.0)
    (round_in c.take_out.new.round c.take_out.new.world.0) (ap (option_map (λ form. form.now)) c.in-None.is)) c.take_out.ensures.answered

pub returns-in-None-clause-kept : goal.returns-in-None-clause-kept
returns-in-None-clause-kept g c =
    let message = c.args.message in
    ok_on c.take_out.result (keeps_gone message.number message.name.now (form_told message) (round_in c.args.round.now c.args.world.now.0)
    (round_in c.take_out.new.round c.take_out.new.world.0) (ap (option_map (λ form. form.now)) c.in-None.is)) c.take_out.ensures.kept

pub returns-in-None-clause-refused : goal.returns-in-None-clause-refused
returns-in-None-clause-refused g c =
    let functions = g.R.Meaning.Meaning.functions in
    let message = c.args.message in
    let old = round_in c.args.round.now c.args.world.now.0 in
    IfErr-weaker c.take_out.result _ _
    (λ cause is. subst (λ (f : Option (List ℕ)). IfRefused cause (RefusesMessageAt functions message.name.now f old)) (sym (ap (option_map (λ form. form.now)) c.in-None.is)) is) c.take_out.ensures.refused
