use Rattle.std.proofs.Common.{List, ap, sym, ◌∙◌, arith}
use Rattle.form_reader.specs.declared.stack.Frame.{Frame}
use Rattle.form_reader.specs.Context.{setting}
use Rattle.lisp_reading.specs.Plans.{run, fault}
use Rattle.lisp_object.specs.declared.refusal.TheConstants.{TOO_DEEP}
use Rattle.form_reader.specs.Stack.{between_objects}
use Rattle.form_reader.proofs.Dispatches.{opens, is_too_deep}
use Rattle.form_reader.proofs.dispatch.open_call.Goals as goal

pub returns-clause-gathers : goal.returns-clause-gathers
returns-clause-gathers g c = λ cs.
    let setting = setting g.R.MacroFunctions.functions c.args.with.now in
    opens setting c.args.stack.now c.args.frame.call c.args.at cs c.args.frame.part c.requires.none (omega (arith, c.len.ensures, c.if-len-with.false)) c.requires.within
    ∙ ap (λ (fs : List Frame). run setting.table setting.limits (between_objects setting fs) c.args.at cs) (sym c.in_ok-push.ensures)

pub returns-then-len-with-clause-gathers : goal.returns-then-len-with-clause-gathers
returns-then-len-with-clause-gathers g c = λ cs.
    let setting = setting g.R.MacroFunctions.functions c.args.with.now in
    is_too_deep setting c.args.stack.now c.args.frame.call c.args.at cs c.args.frame.part c.requires.none (omega (arith, c.len.ensures, c.if-len-with.true))
    ∙ ap (λ n. fault TOO_DEEP n) (omega (arith, c.saturating_sub.ensures))
