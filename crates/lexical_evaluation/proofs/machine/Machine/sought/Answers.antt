use Rattle.std.proofs.Common.{◌<◌, length, ap, sym, ◌∙◌, arith}
use Rattle.lisp_object.specs.Datum.{object_of}
use Rattle.lexical_evaluation.specs.Values.{sought_value_in}
use Rattle.lexical_evaluation.specs.Machine.{around, point_of, to_come, sought_after}
use Rattle.lexical_evaluation.proofs.Steps.{some_to_come}
use Rattle.lexical_evaluation.proofs.Deciding.{sought_on}
use Rattle.lexical_evaluation.proofs.Going.{goes_as}
use Rattle.lexical_evaluation.proofs.machine.Machine.sought.Goals as goal

pub returns-clause-gives : goal.returns-clause-gives
returns-clause-gives c =
    let m = c.args.self.now in
    let some : 0 < length c.args.forms.items = grind (arith, c.if-is_empty.false, c.is_empty.ensures) in
    let begins = some_to_come c.args.forms.items some in
    goes_as m c.seek.new.self c.seek.result
    (λ does rules seen p. sought_after rules seen c.args.truth (object_of c.args.value) (to_come c.args.forms.items) p)
    (λ does rules seen p. sought_value_in rules seen c.args.truth p (to_come c.args.forms.items))
    (λ w s. ap (λ f. sought_after (w.rules m.deeper) (around m) c.args.truth (object_of c.args.value) f (point_of m s)) begins.is
    ∙ sought_on (w.rules m.deeper) (around m) c.args.truth (point_of m s) (object_of c.args.value) begins.next begins.others (sym c.has_truth.ensures ∙ c.if-has_truth.false)
    ∙ ap (sought_value_in (w.rules m.deeper) (around m) c.args.truth (point_of m s)) (sym begins.is))
    c.seek.ensures.gives

pub returns-then-has_truth-clause-arguments : goal.returns-then-has_truth-clause-arguments
returns-then-has_truth-clause-arguments c = λ u hand given. (hand, given.1)

pub returns-then-is_empty-clause-arguments : goal.returns-then-is_empty-clause-arguments
returns-then-is_empty-clause-arguments c = λ u hand given. (hand, given.1)

pub returns-clause-arguments : goal.returns-clause-arguments
returns-clause-arguments c = λ u hand given. c.seek.ensures.arguments u hand given.0
