use Rattle.std.proofs.Common.{◌<◌, length, ap, sym, ◌∙◌, arith}
use Rattle.lisp_object.specs.Datum.{object_of}
use Rattle.lexical_evaluation.specs.Values.{selected_in}
use Rattle.lexical_evaluation.specs.Machine.{around, point_of, to_come, clause_in, progn_in}
use Rattle.lexical_evaluation.proofs.Steps.{some_to_come}
use Rattle.lexical_evaluation.proofs.Deciding.{clause_false, clause_true}
use Rattle.lexical_evaluation.proofs.Going.{goes_as}
use Rattle.lexical_evaluation.proofs.machine.Machine.clause.Goals as goal

pub returns-then-not-is_true-clause-gives : goal.returns-then-not-is_true-clause-gives
returns-then-not-is_true-clause-gives c =
    let m = c.args.self.now in
    goes_as m c.clauses.new.self c.clauses.result
    (λ does rules seen p. clause_in rules seen (object_of c.args.value) (to_come c.args.forms.items) (to_come c.args.others.items) p)
    (λ does rules seen p. selected_in rules seen p (to_come c.args.others.items))
    (λ w s. clause_false (w.rules m.deeper) (around m) (point_of m s) (object_of c.args.value) (to_come c.args.forms.items) (to_come c.args.others.items) (sym c.is_true.ensures ∙ c.if-not-is_true.true))
    c.clauses.ensures.gives

pub returns-clause-gives : goal.returns-clause-gives
returns-clause-gives c =
    let m = c.args.self.now in
    let some : 0 < length c.args.forms.items = grind (arith, c.if-is_empty.false, c.is_empty.ensures) in
    let begins = some_to_come c.args.forms.items some in
    goes_as m c.sequence.new.self c.sequence.result
    (λ does rules seen p. clause_in rules seen (object_of c.args.value) (to_come c.args.forms.items) (to_come c.args.others.items) p)
    (λ does rules seen p. progn_in rules seen (to_come c.args.forms.items) p)
    (λ w s. ap (λ f. clause_in (w.rules m.deeper) (around m) (object_of c.args.value) f (to_come c.args.others.items) (point_of m s)) begins.is
    ∙ clause_true (w.rules m.deeper) (around m) (point_of m s) (object_of c.args.value) begins.next begins.others (to_come c.args.others.items) (sym c.is_true.ensures ∙ c.if-not-is_true.false)
    ∙ ap (λ f. progn_in (w.rules m.deeper) (around m) f (point_of m s)) (sym begins.is))
    c.sequence.ensures.gives

pub returns-then-not-is_true-clause-arguments : goal.returns-then-not-is_true-clause-arguments
returns-then-not-is_true-clause-arguments c = λ u hand given. c.clauses.ensures.arguments u hand given.1

pub returns-then-is_empty-clause-arguments : goal.returns-then-is_empty-clause-arguments
returns-then-is_empty-clause-arguments c = λ u hand given. (hand, given.2)

pub returns-clause-arguments : goal.returns-clause-arguments
returns-clause-arguments c = λ u hand given. c.sequence.ensures.arguments u hand given.0
