use Rattle.lexical_evaluation.proofs.Handing.{nil_holds}
use Rattle.std.proofs.Common.{if◌then◌else◌, sym, ap, ◌∙◌}
use Rattle.lisp_object.specs.Object.{nil}
use Rattle.lisp_object.specs.Datum.{object_of}
use Rattle.kept_functions.specs.Counting.{here}
use Rattle.lexical_evaluation.specs.Machine.{around, point_of, to_come, progn_in, guard_in}
use Rattle.lexical_evaluation.proofs.Going.{goes_as}
use Rattle.lexical_evaluation.proofs.machine.Machine.guarded.Goals as goal

pub returns-then-has_truth-clause-gives : goal.returns-then-has_truth-clause-gives
returns-then-has_truth-clause-gives c =
    let m = c.args.self.now in
    goes_as m c.sequence.new.self c.sequence.result
    (λ does rules variables_seen p. guard_in rules variables_seen c.args.truth (object_of c.args.value.now) (to_come c.args.forms.items) p)
    (λ does rules variables_seen p. progn_in rules variables_seen (to_come c.args.forms.items) p)
    (λ w s. ap (λ b. if b then progn_in (w.rules m.deeper) (around m) (to_come c.args.forms.items) (point_of m s) else here nil (point_of m s)) (sym c.has_truth.ensures ∙ c.if-has_truth.true))
    c.sequence.ensures.gives

pub returns-then-has_truth-clause-arguments : goal.returns-then-has_truth-clause-arguments
returns-then-has_truth-clause-arguments c = λ u hand given. c.sequence.ensures.arguments u hand given

pub returns-clause-arguments : goal.returns-clause-arguments
returns-clause-arguments c = λ u hand given. (hand, nil_holds u hand.sound c.in_ok-empty_list.field-0 c.in_ok-empty_list.ensures.value c.in_ok-empty_list.ensures.proper)
