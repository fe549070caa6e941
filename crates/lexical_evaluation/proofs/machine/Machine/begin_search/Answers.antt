use Rattle.lexical_evaluation.proofs.Handing.{nil_holds, true_holds}
use Rattle.std.proofs.Common.{if◌then◌else◌, ap, sym, ◌∙◌, arith}
use Rattle.lisp_object.specs.Object.{nil}
use Rattle.lisp_operators.specs.Properties.{t}
use Rattle.kept_functions.specs.Counting.{here}
use Rattle.lexical_evaluation.specs.Values.{sought_value_in}
use Rattle.lexical_evaluation.specs.Machine.{comes_to, around, point_of}
use Rattle.lexical_evaluation.proofs.Steps.{none_to_come}
use Rattle.lexical_evaluation.proofs.Choosing.{search_none}
use Rattle.lexical_evaluation.proofs.machine.Machine.begin_search.Goals as goal

pub returns-then-truth-clause-gives : goal.returns-then-truth-clause-gives
returns-then-truth-clause-gives c = λ w s.
    let m = c.args.self.now in
    let p = point_of m s in
    ap (comes_to w m)
    (ap (sought_value_in (w.rules m.deeper) (around m) c.args.truth p) (none_to_come c.args.forms.items (grind (arith, c.is_empty.ensures, c.if-not-is_empty.false)))
    ∙ search_none (w.rules m.deeper) (around m) p c.args.truth
    ∙ ap (λ b. here (if b then nil else t) p) c.if-truth.true ∙ ap (λ x. here x p) (sym c.in_ok-empty_list.ensures.value))

pub returns-clause-gives : goal.returns-clause-gives
returns-clause-gives c = λ w s.
    let m = c.args.self.now in
    let p = point_of m s in
    ap (comes_to w m)
    (ap (sought_value_in (w.rules m.deeper) (around m) c.args.truth p) (none_to_come c.args.forms.items (grind (arith, c.is_empty.ensures, c.if-not-is_empty.false)))
    ∙ search_none (w.rules m.deeper) (around m) p c.args.truth
    ∙ ap (λ b. here (if b then nil else t) p) c.if-truth.false ∙ ap (λ x. here x p) (sym c.in_ok-truth.ensures.value))

pub returns-then-not-is_empty-clause-arguments : goal.returns-then-not-is_empty-clause-arguments
returns-then-not-is_empty-clause-arguments c = λ u hand given. c.seek.ensures.arguments u hand given

pub returns-then-truth-clause-arguments : goal.returns-then-truth-clause-arguments
returns-then-truth-clause-arguments c = λ u hand given. (hand, nil_holds u hand.sound _ c.in_ok-empty_list.ensures.value c.in_ok-empty_list.ensures.proper)

pub returns-clause-arguments : goal.returns-clause-arguments
returns-clause-arguments c = λ u hand given. (hand, true_holds u hand.sound _ c.in_ok-truth.ensures.value c.in_ok-truth.ensures.proper)
