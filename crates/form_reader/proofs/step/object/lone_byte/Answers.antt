use Rattle.std.proofs.Common.{arith, refl, sym, ◌∙◌}
use Rattle.form_reader.specs.Context.{setting}
use Rattle.form_reader.proofs.Objects.{attempt_over, alone_by, alone_refused, alone_other, alone_calls, invalid_beyond}
use Rattle.form_reader.proofs.step.object.lone_byte.Goals as goal

pub returns-then-at-with-clause-brings : goal.returns-then-at-with-clause-brings
returns-then-at-with-clause-brings g c = λ cs.
    let setting = setting g.R.MacroFunctions.functions c.args.with.now in
    attempt_over setting c.args.at c.args.c cs c.args.stack.now c.requires.nesting c.if-at-with.true c.requires.alone

pub returns-then-c-ge128-clause-brings : goal.returns-then-c-ge128-clause-brings
returns-then-c-ge128-clause-brings g c = λ cs.
    let setting = setting g.R.MacroFunctions.functions c.args.with.now in
    alone_refused setting c.args.at c.args.c cs c.args.stack.now _ c.requires.nesting (omega (arith, c.if-at-with.false)) c.requires.alone (invalid_beyond c.args.with.now.readtable.now c.args.c c.soundness.ensures.count c.if-c-ge128.true) refl

pub returns-in-Whitespace-clause-brings : goal.returns-in-Whitespace-clause-brings
returns-in-Whitespace-clause-brings g c = λ cs.
    let setting = setting g.R.MacroFunctions.functions c.args.with.now in
    alone_by setting c.args.at c.args.c cs c.args.stack.now _ c.requires.nesting (omega (arith, c.if-at-with.false)) c.requires.alone (sym c.syntax.ensures ∙ c.in-Whitespace.is)

pub returns-in-TerminatingMacro-clause-brings : goal.returns-in-TerminatingMacro-clause-brings
returns-in-TerminatingMacro-clause-brings g c = λ cs.
    let setting = setting g.R.MacroFunctions.functions c.args.with.now in
    alone_calls setting c.args.at c.args.c cs c.args.stack.now _ _ c.begin_macro.result c.requires.nesting (omega (arith, c.if-at-with.false)) c.requires.alone (sym c.syntax.ensures ∙ c.in-TerminatingMacro.is) (c.begin_macro.ensures.brings cs)

pub returns-in-NonTerminatingMacro-clause-brings : goal.returns-in-NonTerminatingMacro-clause-brings
returns-in-NonTerminatingMacro-clause-brings g c = λ cs.
    let setting = setting g.R.MacroFunctions.functions c.args.with.now in
    alone_calls setting c.args.at c.args.c cs c.args.stack.now _ _ c.begin_macro-in-NonTerminatingMacro.result c.requires.nesting (omega (arith, c.if-at-with.false)) c.requires.alone (sym c.syntax.ensures ∙ c.in-NonTerminatingMacro.is) (c.begin_macro-in-NonTerminatingMacro.ensures.brings cs)

pub returns-in_default-clause-brings : goal.returns-in_default-clause-brings
returns-in_default-clause-brings g c = λ cs.
    let setting = setting g.R.MacroFunctions.functions c.args.with.now in
    alone_other setting c.args.at c.args.c cs c.args.stack.now c.syntax.result c.requires.nesting (omega (arith, c.if-at-with.false)) c.requires.alone (sym c.syntax.ensures)
    c.in_default.not-Whitespace c.in_default.not-TerminatingMacro c.in_default.not-NonTerminatingMacro
