use Rattle.std.proofs.Common.{ap, ◌∙◌}
use Rattle.lisp_object.specs.Datum.{object_of}
use Rattle.lisp_object.proofs.Objects.{object_of-Integer, object_of-Rational, object_of-Char, object_of-Text, object_of-Vector}
use Rattle.evaluator.proofs.Steps.{is_constant}
use Rattle.evaluator.proofs.QuotedKeys.{constant_literal, quoted_ok}
use Rattle.evaluator.proofs.direct.into_literal.Goals as goal

pub returns-in-Integer-clause-value : goal.returns-in-Integer-clause-value
returns-in-Integer-clause-value c =
    constant_literal (object_of c.args.form) (ap (λ d. is_constant (object_of d)) c.in-Integer.is ∙ ap is_constant (object_of-Integer c.in-Integer.field-0))

pub returns-in-Rational-clause-value : goal.returns-in-Rational-clause-value
returns-in-Rational-clause-value c =
    constant_literal (object_of c.args.form) (ap (λ d. is_constant (object_of d)) c.in-Rational.is ∙ ap is_constant (object_of-Rational c.in-Rational.field-0))

pub returns-in-Char-clause-value : goal.returns-in-Char-clause-value
returns-in-Char-clause-value c =
    constant_literal (object_of c.args.form) (ap (λ d. is_constant (object_of d)) c.in-Char.is ∙ ap is_constant (object_of-Char c.in-Char.field-0))

pub returns-in-Text-clause-value : goal.returns-in-Text-clause-value
returns-in-Text-clause-value c =
    constant_literal (object_of c.args.form) (ap (λ d. is_constant (object_of d)) c.in-Text.is ∙ ap is_constant (object_of-Text c.in-Text.field-0))

pub returns-in-Vector-clause-value : goal.returns-in-Vector-clause-value
returns-in-Vector-clause-value c =
    constant_literal (object_of c.args.form) (ap (λ d. is_constant (object_of d)) c.in-Vector.is ∙ ap is_constant (object_of-Vector c.in-Vector.field-0))

pub returns-in-List-clause-value : goal.returns-in-List-clause-value
returns-in-List-clause-value c = quoted_ok c.into_quoted.result (object_of c.args.form) c.into_quoted.ensures.object
