use Rattle.std.proofs.Common.{[], ◌≡◌, true, false, sym, ◌∙◌}
use Rattle.form_reader.specs.Context.{setting}
use Rattle.form_reader.proofs.Steps.{passed_none}
use Rattle.form_reader.proofs.Readers.{done_outcome}
use Rattle.form_reader.proofs.Values.{taken_brings}
use Rattle.form_reader.proofs.Steps.{done_starts, kept_starts, with_starts, with_turns, with_ready}
use Rattle.form_reader.proofs.step.take_byte.Goals as goal

pub done_before-requires-clause-none : goal.done_before-requires-clause-none
done_before-requires-clause-none g c =
    let setting = setting g.R.MacroFunctions.functions c.args.with.now in
    passed_none setting c.feed.new.stack c.args.at c.args.c [] _ _ _ c.in-Done.is (c.in_ok-event.ensures.passes [])

pub returns-in-Done-clause-turns : goal.returns-in-Done-clause-turns
returns-in-Done-clause-turns g c = λ cs.
    let setting = setting g.R.MacroFunctions.functions c.args.with.now in
    done_outcome setting c.feed.new.stack _ c.args.start c.args.at c.args.c cs _ c.in-Done.found _ c.done_before.result c.in-Done.is (c.in_ok-event.ensures.passes cs) (c.done_before.ensures.turns cs)

pub returns-in-Brings-clause-turns : goal.returns-in-Brings-clause-turns
returns-in-Brings-clause-turns g c = λ cs.
    let setting = setting g.R.MacroFunctions.functions c.args.with.now in
    c.change_of.ensures.turns cs _ (taken_brings setting c.feed.new.stack c.args.at c.args.c cs c.in_ok-event.field-0 c.in-Brings.event _ c.in-Brings.is (c.in_ok-event.ensures.passes cs))

pub returns-in-Done-clause-starts : goal.returns-in-Done-clause-starts
returns-in-Done-clause-starts g c =
    let setting = setting g.R.MacroFunctions.functions c.args.with.now in
    done_starts setting c.args.stack.now c.args.state c.args.start c.args.at c.args.c c.feed.new.stack c.in_ok-event.field-0 c.in-Done.found c.done_before.result c.in-Done.is c.in_ok-event.ensures.passes
    c.done_before.ensures.starts

pub returns-in-Brings-clause-starts : goal.returns-in-Brings-clause-starts
returns-in-Brings-clause-starts g c =
    let setting = setting g.R.MacroFunctions.functions c.args.with.now in
    kept_starts setting c.args.stack.now c.args.state c.args.start c.args.at c.args.c c.change_of.result c.change_of.ensures.starts

pub first_change-requires-clause-none : goal.first_change-requires-clause-none
first_change-requires-clause-none g c = (c.is_first.ensures.first c.if-is_first.true).0

pub returns-then-is_first-clause-turns : goal.returns-then-is_first-clause-turns
returns-then-is_first-clause-turns g c = λ cs.
    let setting = setting g.R.MacroFunctions.functions c.args.with.now in
    let first = c.is_first.ensures.first c.if-is_first.true in
    with_turns setting c.args.stack.now c.args.state c.args.start c.args.at c.args.c _ cs c.first_change.result first.0 first.1 first.2 (c.first_change.ensures.turns cs)

pub returns-then-is_first-clause-starts : goal.returns-then-is_first-clause-starts
returns-then-is_first-clause-starts g c =
    let setting = setting g.R.MacroFunctions.functions c.args.with.now in
    with_starts setting c.args.stack.now c.args.state c.args.start c.args.at c.args.c c.first_change.result c.first_change.ensures.starts

pub returns-then-is_first-clause-ready : goal.returns-then-is_first-clause-ready
returns-then-is_first-clause-ready g c =
    let first = c.is_first.ensures.first c.if-is_first.true in
    with_ready c.args.with.now.limits _ c.args.start c.args.at c.first_change.result first.2 c.first_change.ensures.ready
