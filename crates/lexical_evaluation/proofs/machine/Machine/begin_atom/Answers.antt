use Rattle.std.proofs.Common.{ap, ◌∙◌}
use Rattle.lisp_object.specs.Datum.{object_of}
use Rattle.lisp_object.specs.declared.refusal.TheConstants.{NOT_A_FORM}
use Rattle.lisp_object.proofs.Objects.{object_of-Integer, object_of-Rational, object_of-Char, object_of-Text, object_of-Vector, object_of-Uninterned}
use Rattle.evaluator.proofs.Steps.{is_constant}
use Rattle.lexical_evaluation.specs.Values.{value_in}
use Rattle.lexical_evaluation.specs.Machine.{comes_to, around, point_of}
use Rattle.lexical_evaluation.proofs.Continuing.{refused}
use Rattle.lexical_evaluation.proofs.Forms.{constant_value, uninterned_value}
use Rattle.lexical_evaluation.proofs.machine.Machine.begin_atom.Goals as goal

pub returns-in-Uninterned-clause-gives : goal.returns-in-Uninterned-clause-gives
returns-in-Uninterned-clause-gives c = λ w s.
    let m = c.args.self.now in
    ap (comes_to w m)
    (ap (λ d. value_in (w.rules m.deeper) (around m) (point_of m s) (object_of d)) c.in-Uninterned.is ∙ ap (value_in (w.rules m.deeper) (around m) (point_of m s)) (object_of-Uninterned c.in-Uninterned.field-0)
    ∙ uninterned_value (w.rules m.deeper) (around m) (point_of m s) c.in-Uninterned.field-0)
    ∙ refused w m NOT_A_FORM

pub returns-in-Integer-clause-gives : goal.returns-in-Integer-clause-gives
returns-in-Integer-clause-gives c = λ w s.
    let m = c.args.self.now in
    ap (comes_to w m)
    (constant_value (w.rules m.deeper) (around m) (point_of m s) (object_of c.args.atom) (ap (λ d. is_constant (object_of d)) c.in-Integer.is ∙ ap is_constant (object_of-Integer c.in-Integer.field-0)))

pub returns-in-Rational-clause-gives : goal.returns-in-Rational-clause-gives
returns-in-Rational-clause-gives c = λ w s.
    let m = c.args.self.now in
    ap (comes_to w m)
    (constant_value (w.rules m.deeper) (around m) (point_of m s) (object_of c.args.atom) (ap (λ d. is_constant (object_of d)) c.in-Rational.is ∙ ap is_constant (object_of-Rational c.in-Rational.field-0)))

pub returns-in-Char-clause-gives : goal.returns-in-Char-clause-gives
returns-in-Char-clause-gives c = λ w s.
    let m = c.args.self.now in
    ap (comes_to w m)
    (constant_value (w.rules m.deeper) (around m) (point_of m s) (object_of c.args.atom) (ap (λ d. is_constant (object_of d)) c.in-Char.is ∙ ap is_constant (object_of-Char c.in-Char.field-0)))

pub returns-in-Text-clause-gives : goal.returns-in-Text-clause-gives
returns-in-Text-clause-gives c = λ w s.
    let m = c.args.self.now in
    ap (comes_to w m)
    (constant_value (w.rules m.deeper) (around m) (point_of m s) (object_of c.args.atom) (ap (λ d. is_constant (object_of d)) c.in-Text.is ∙ ap is_constant (object_of-Text c.in-Text.field-0)))

pub returns-in-Vector-clause-gives : goal.returns-in-Vector-clause-gives
returns-in-Vector-clause-gives c = λ w s.
    let m = c.args.self.now in
    ap (comes_to w m)
    (constant_value (w.rules m.deeper) (around m) (point_of m s) (object_of c.args.atom) (ap (λ d. is_constant (object_of d)) c.in-Vector.is ∙ ap is_constant (object_of-Vector c.in-Vector.field-0)))

pub returns-in-Symbol-clause-arguments : goal.returns-in-Symbol-clause-arguments
returns-in-Symbol-clause-arguments c = λ u hand given. c.begin_symbol.ensures.arguments u hand given

pub returns-in-Integer-clause-arguments : goal.returns-in-Integer-clause-arguments
returns-in-Integer-clause-arguments c = λ u hand argument. (hand, argument)

pub returns-in-Rational-clause-arguments : goal.returns-in-Rational-clause-arguments
returns-in-Rational-clause-arguments c = λ u hand argument. (hand, argument)

pub returns-in-Char-clause-arguments : goal.returns-in-Char-clause-arguments
returns-in-Char-clause-arguments c = λ u hand argument. (hand, argument)

pub returns-in-Text-clause-arguments : goal.returns-in-Text-clause-arguments
returns-in-Text-clause-arguments c = λ u hand argument. (hand, argument)

pub returns-in-Vector-clause-arguments : goal.returns-in-Vector-clause-arguments
returns-in-Vector-clause-arguments c = λ u hand argument. (hand, argument)
