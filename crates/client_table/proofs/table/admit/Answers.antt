use Rattle.std.proofs.Common.{ap, ◌∙◌}
use Rattle.client_table.specs.Entries.{entry_property}
use Rattle.client_table.specs.Steps.{refusal_of}
use Rattle.client_table.proofs.Answering.{admits_amiss, admits_new, admits_refused, is_gone, is_there}
use Rattle.client_table.proofs.table.admit.Goals as goal
use Rattle.lisp_object.specs.Datum.{object_of}
use Rattle.messages.specs.Rounds.{round_in}

pub returns-in-Some-clause-admitted : goal.returns-in-Some-clause-admitted
returns-in-Some-clause-admitted g c =
    let w = c.args.world.now.0 in
    admits_refused g.R.Meaning.Meaning.functions c.args.name.now (round_in c.args.round.now w) (round_in c.add_form.new.self c.add_form.new.world.0) c.as_slice.result.now (c.as_slice.ensures.value ∙ c.in-Ok.ensures)
    c.in-Ok-add_form.ensures.added c.refusal_in.result (c.refusal_in.ensures ∙ ap refusal_of c.in-Ok-add_form.ensures.told) c.in-Some.number c.in-Some.is

pub returns-then-is_some-clause-admitted : goal.returns-then-is_some-clause-admitted
returns-then-is_some-clause-admitted g c =
    let w = c.args.world.now.0 in
    admits_new g.R.Meaning.Meaning.functions c.args.name.now (round_in c.args.round.now w) (round_in c.add_form.new.self c.add_form.new.world.0) c.as_slice.result.now (c.as_slice.ensures.value ∙ c.in-Ok.ensures)
    c.in-Ok-add_form.ensures.added c.refusal_in.result (c.refusal_in.ensures ∙ ap refusal_of c.in-Ok-add_form.ensures.told) c.in-None.is
    (is_there (λ d. object_of d.now) c.entry_property.result (entry_property c.add_form.new.world.0 c.args.name.now) c.is_some.result c.entry_property.ensures.value c.is_some.ensures c.if-is_some.true)

pub returns-clause-refused : goal.returns-clause-refused
returns-clause-refused g c =
    let w = c.args.world.now.0 in
    admits_amiss g.R.Meaning.Meaning.functions c.args.name.now (round_in c.args.round.now w) (round_in c.add_form.new.self c.add_form.new.world.0) c.as_slice.result.now (c.as_slice.ensures.value ∙ c.in-Ok.ensures)
    c.in-Ok-add_form.ensures.added c.refusal_in.result (c.refusal_in.ensures ∙ ap refusal_of c.in-Ok-add_form.ensures.told) c.in-None.is
    (is_gone (λ d. object_of d.now) c.entry_property.result (entry_property c.add_form.new.world.0 c.args.name.now) c.is_some.result c.entry_property.ensures.value c.is_some.ensures c.if-is_some.false)
