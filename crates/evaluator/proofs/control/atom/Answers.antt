use Rattle.std.proofs.Common.{ap, ◌∙◌}
use Rattle.lisp_object.specs.Datum.{object_of}
use Rattle.lisp_object.proofs.Objects.{object_of-Integer, object_of-Rational, object_of-Char, object_of-Text, object_of-Vector}
use Rattle.evaluator.proofs.Steps.{is_constant}
use Rattle.evaluator.proofs.Forms.{symbol_form, constant_form, uninterned_form}
use Rattle.evaluator.proofs.control.atom.Goals as goal

pub unreachable-requires : goal.unreachable-requires
unreachable-requires c = c.requires.atom c.in-List.items c.in-List.tail c.in-List.is

pub returns-in-Symbol-clause-gives : goal.returns-in-Symbol-clause-gives
returns-in-Symbol-clause-gives c = λ names.
    symbol_form names c.args.world.now.0 c.args.form.now c.in-Symbol.package c.in-Symbol.name c.symbol_value.result c.in-Symbol.is c.symbol_value.ensures.gives

pub returns-in-Uninterned-clause-gives : goal.returns-in-Uninterned-clause-gives
returns-in-Uninterned-clause-gives c = λ names. uninterned_form names c.args.world.now.0 c.args.form.now c.in-Uninterned.field-0 c.in-Uninterned.is

pub returns-in-Integer-clause-gives : goal.returns-in-Integer-clause-gives
returns-in-Integer-clause-gives c = λ names.
    constant_form names c.args.world.now.0 c.args.form.now c.itself.result (ap (λ d. is_constant (object_of d)) c.in-Integer.is ∙ ap is_constant (object_of-Integer c.in-Integer.field-0)) c.itself.ensures.gives

pub returns-in-Rational-clause-gives : goal.returns-in-Rational-clause-gives
returns-in-Rational-clause-gives c = λ names.
    constant_form names c.args.world.now.0 c.args.form.now c.itself-in-Rational.result (ap (λ d. is_constant (object_of d)) c.in-Rational.is ∙ ap is_constant (object_of-Rational c.in-Rational.field-0)) c.itself-in-Rational.ensures.gives

pub returns-in-Char-clause-gives : goal.returns-in-Char-clause-gives
returns-in-Char-clause-gives c = λ names.
    constant_form names c.args.world.now.0 c.args.form.now c.itself-in-Char.result (ap (λ d. is_constant (object_of d)) c.in-Char.is ∙ ap is_constant (object_of-Char c.in-Char.field-0)) c.itself-in-Char.ensures.gives

pub returns-in-Text-clause-gives : goal.returns-in-Text-clause-gives
returns-in-Text-clause-gives c = λ names.
    constant_form names c.args.world.now.0 c.args.form.now c.itself-in-Text.result (ap (λ d. is_constant (object_of d)) c.in-Text.is ∙ ap is_constant (object_of-Text c.in-Text.field-0)) c.itself-in-Text.ensures.gives

pub returns-in-Vector-clause-gives : goal.returns-in-Vector-clause-gives
returns-in-Vector-clause-gives c = λ names.
    constant_form names c.args.world.now.0 c.args.form.now c.itself-in-Vector.result (ap (λ d. is_constant (object_of d)) c.in-Vector.is ∙ ap is_constant (object_of-Vector c.in-Vector.field-0)) c.itself-in-Vector.ensures.gives
