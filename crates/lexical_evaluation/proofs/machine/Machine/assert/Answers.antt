use Rattle.lexical_evaluation.proofs.Handing.{nil_holds}
use Rattle.std.proofs.Common.{if◌then◌else◌, Err, sym, ap, ◌∙◌}
use Rattle.lisp_object.specs.Object.{nil}
use Rattle.lisp_object.specs.declared.refusal.TheConstants.{ASSERTION_FAILED}
use Rattle.kept_functions.specs.Counting.{here}
use Rattle.lexical_evaluation.specs.Machine.{comes_to, point_of}
use Rattle.lexical_evaluation.proofs.Continuing.{refused}
use Rattle.lexical_evaluation.proofs.machine.Machine.assert.Goals as goal

pub returns-clause-gives : goal.returns-clause-gives
returns-clause-gives c = λ w s.
    let m = c.args.self.now in
    ap (λ b. comes_to w m (if b then here nil (point_of m s) else Err ASSERTION_FAILED)) (sym c.is_true.ensures ∙ c.if-is_true.false)
    ∙ refused w m ASSERTION_FAILED

pub returns-then-is_true-clause-arguments : goal.returns-then-is_true-clause-arguments
returns-then-is_true-clause-arguments c = λ u hand given. (hand, nil_holds u hand.sound c.in_ok-empty_list.field-0 c.in_ok-empty_list.ensures.value c.in_ok-empty_list.ensures.proper)
