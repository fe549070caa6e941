use Rattle.form_reader.specs.Context.{setting}
use Rattle.std.proofs.Common.{arith, sym, ◌∙◌, ap}
use Rattle.lisp_reading.specs.Reading.{is_blank}
use Rattle.form_reader.proofs.Objects.{space_taken, space_over, space_passed}
use Rattle.form_reader.proofs.step.object.after_token.Goals as goal

pub returns-clause-brings : goal.returns-clause-brings
returns-clause-brings g c = λ cs.
    let setting = setting g.R.MacroFunctions.functions c.args.with.now in
    space_passed setting c.args.stack.now c.args.at c.args.c cs _ c.at_object.result (ap is_blank (sym c.syntax.ensures) ∙ sym c.is_blank.ensures ∙ c.if-is_blank.false) (c.at_object.ensures.brings cs)

pub returns-then-at-with-clause-brings : goal.returns-then-at-with-clause-brings
returns-then-at-with-clause-brings g c = λ cs.
    let setting = setting g.R.MacroFunctions.functions c.args.with.now in
    space_over setting c.args.stack.now c.args.at c.args.c cs c.if-at-with.true (ap is_blank (sym c.syntax.ensures) ∙ sym c.is_blank.ensures ∙ c.if-is_blank.true)

pub returns-then-is_blank-clause-brings : goal.returns-then-is_blank-clause-brings
returns-then-is_blank-clause-brings g c = λ cs.
    let setting = setting g.R.MacroFunctions.functions c.args.with.now in
    space_taken setting c.args.stack.now c.args.at c.args.c cs (omega (arith, c.if-at-with.false)) (ap is_blank (sym c.syntax.ensures) ∙ sym c.is_blank.ensures ∙ c.if-is_blank.true)
