use Rattle.lisp_object.specs.Datum.{object_of}
use Rattle.lexical_evaluation.specs.Arguments.{AreArguments}
use Rattle.lexical_evaluation.proofs.Handing.{apart_holds}
use Rattle.std.proofs.Common.{◌≡◌, ◌<◌, length, is_some, ap, sym, ◌∙◌, subst, arith}
use Rattle.std.proofs.lemmas.List.{length-reverse}
use Rattle.lisp_object.specs.Object.{list_of}
use Rattle.lisp_operators.specs.EvaluationAnswers.{IsProper, AreProper, objects, IsArgument}
use Rattle.evaluator.specs.Operators.{first}
use Rattle.evaluator.specs.Value.{rest}
use Rattle.kept_functions.specs.Environments.{variables_of}
use Rattle.lexical_evaluation.specs.Values.{lambda_in}
use Rattle.lexical_evaluation.proofs.Apart.{reversed_all}
use Rattle.lexical_evaluation.proofs.Steps.{none_to_come}
use Rattle.lexical_evaluation.proofs.Callees.{lambda_none, parts_none, parts_some}
use Rattle.lexical_evaluation.proofs.machine.applying.written.Goals as goal

pub returns-then-is_empty-clause-gives : goal.returns-then-is_empty-clause-gives
returns-then-is_empty-clause-gives c = λ rules around p.
    let none : length c.in-Some.forms.items ≡ 0 =
    sym (length-reverse c.in-Some.forms.items) ∙ ap length (sym c.reverse.ensures.items) ∙ grind (arith, c.is_empty.ensures, c.if-is_empty.true) in
    ap (lambda_in rules around p) (ap rest c.in-Some.ensures.object ∙ none_to_come c.in-Some.forms.items none) ∙ lambda_none rules around p

pub returns-then-not-has_variables-clause-gives : goal.returns-then-not-has_variables-clause-gives
returns-then-not-has_variables-clause-gives c = λ rules around p.
    let parts = c.reverse.new.self.items in
    let some : 0 < length parts = grind (arith, c.is_empty.ensures, c.if-is_empty.false) in
    ap (lambda_in rules around p) (ap rest c.in-Some.ensures.object ∙ ap (λ l. list_of (objects l)) (sym c.reverse.ensures.items))
    ∙ parts_none rules around p parts some (ap (λ l. is_some (variables_of (first (list_of (objects l))))) (sym c.as_slice.ensures.value) ∙ sym c.has_variables.ensures ∙ c.if-not-has_variables.true)

pub returns-else-not-has_variables-clause-gives : goal.returns-else-not-has_variables-clause-gives
returns-else-not-has_variables-clause-gives c =
    let parts = c.reverse.new.self.items in
    let some : 0 < length parts = grind (arith, c.is_empty.ensures, c.if-is_empty.false) in (
      subst AreProper (sym c.reverse.ensures.items) (reversed_all IsProper c.in-Some.forms.items c.in-Some.ensures.others_proper),
      λ rules around p.
          ap (lambda_in rules around p) (ap rest c.in-Some.ensures.object ∙ ap (λ l. list_of (objects l)) (sym c.reverse.ensures.items))
          ∙ parts_some rules around p parts some (ap (λ l. is_some (variables_of (first (list_of (objects l))))) (sym c.as_slice.ensures.value) ∙ sym c.has_variables.ensures ∙ c.if-not-has_variables.false),
    )

pub returns-else-not-has_variables-clause-arguments : goal.returns-else-not-has_variables-clause-arguments
returns-else-not-has_variables-clause-arguments c = λ u argument.
    let parts = apart_holds u (object_of c.args.lambda) c.in-Some._lambda c.in-Some.forms.items c.in-Some.ensures argument.value in
    subst (AreArguments u) (sym c.reverse.ensures.items) (reversed_all (IsArgument u) c.in-Some.forms.items parts.1)
