use Rattle.std.proofs.Common.{sym, ◌∙◌}
use Rattle.form_reader.specs.Context.{setting}
use Rattle.form_reader.proofs.Steps.{first_turns, first_starts, discarded_turns}
use Rattle.form_reader.proofs.step.first_change.Goals as goal

pub returns-clause-turns : goal.returns-clause-turns
returns-clause-turns g c = λ cs.
    let setting = setting g.R.MacroFunctions.functions c.args.with.now in
    first_turns setting c.args.start c.args.c c.args.stack.now c.requires.none _ cs c.change_of.result (c.change_of.ensures.turns cs _ (c.in_ok-event.ensures.brings cs))

pub returns-clause-starts : goal.returns-clause-starts
returns-clause-starts g c =
    let setting = setting g.R.MacroFunctions.functions c.args.with.now in
    first_starts setting c.args.start c.args.c c.args.stack.now c.requires.none c.change_of.result (sym c.is_space.ensures ∙ c.if-is_space.false) c.change_of.ensures.starts

pub returns-then-is_space-clause-turns : goal.returns-then-is_space-clause-turns
returns-then-is_space-clause-turns g c = λ cs.
    let setting = setting g.R.MacroFunctions.functions c.args.with.now in
    discarded_turns setting c.args.start c.args.c c.args.stack.now c.requires.none cs (sym c.is_space.ensures ∙ c.if-is_space.true)
