use Rattle.std.proofs.Common.{true, codes, refl, ◌∙◌}
use Rattle.client_table.specs.Entries.{entry_property}
use Rattle.client_table.proofs.Answering.{gone_amiss, gone_round, is_gone, is_there, memory_only, told_made}
use Rattle.client_table.proofs.table.take_out.Goals as goal
use Rattle.lisp_object.specs.Datum.{object_of}
use Rattle.messages.specs.Rounds.{round_in}
use Rattle.prevalence_store.proofs.steps.Taking.{ok_on}

pub returns-clause-answered : goal.returns-clause-answered
returns-clause-answered g c =
    let functions = g.R.Meaning.Meaning.functions in
    let old = round_in c.args.round.now c.args.world.now.0 in
    let mid = round_in c.add_form.new.self c.add_form.new.world.0 in
    ok_on c.tell.result (λ told.
    gone_round functions c.args.name.now old mid (round_in c.tell.new.round c.add_form.new.world.0) c.as_slice.result.now (codes "NIL") (c.as_slice.ensures.value ∙ c.in-Ok.ensures) refl
    c.in-Ok-add_form.ensures.added (told c.add_form.new.world.0)) c.tell.ensures.answered

pub returns-clause-kept : goal.returns-clause-kept
returns-clause-kept g c = ok_on c.tell.result (λ told.
    is_gone (λ d. object_of d.now) c.entry_property.result (entry_property c.add_form.new.world.0 c.args.name.now) c.is_some.result c.entry_property.ensures.value c.is_some.ensures c.if-is_some.false) c.tell.ensures.answered

pub returns-clause-made : goal.returns-clause-made
returns-clause-made g c =
    let mid = round_in c.add_form.new.self c.add_form.new.world.0 in
    ok_on c.tell.result (λ told first made.
    told_made g.R.Meaning.Meaning.functions (codes "NIL") true mid (round_in c.tell.new.round c.add_form.new.world.0) (told c.add_form.new.world.0) first (c.in-Ok-add_form.ensures.made first made)) c.tell.ensures.answered

pub returns-clause-refused : goal.returns-clause-refused
returns-clause-refused g c = memory_only c.tell.result _ c.tell.ensures.refused

pub returns-then-is_some-clause-refused : goal.returns-then-is_some-clause-refused
returns-then-is_some-clause-refused g c =
    gone_amiss g.R.Meaning.Meaning.functions c.args.name.now (round_in c.args.round.now c.args.world.now.0) (round_in c.add_form.new.self c.add_form.new.world.0) c.as_slice.result.now (c.as_slice.ensures.value ∙ c.in-Ok.ensures)
    c.in-Ok-add_form.ensures.added
    (is_there (λ d. object_of d.now) c.entry_property.result (entry_property c.add_form.new.world.0 c.args.name.now) c.is_some.result c.entry_property.ensures.value c.is_some.ensures c.if-is_some.true)
