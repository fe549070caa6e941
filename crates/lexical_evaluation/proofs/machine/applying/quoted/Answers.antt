use Rattle.lexical_evaluation.proofs.Handing.{popped, apart_holds}
use Rattle.std.proofs.Common.{◌≡◌, ◌<◌, ◌==◌, false, length, ap, ◌∙◌, arith}
use Rattle.std.proofs.lemmas.Bool.Decides.{nat_tests}
use Rattle.lisp_object.specs.Datum.{object_of}
use Rattle.evaluator.specs.Operators.{count}
use Rattle.evaluator.specs.Value.{rest}
use Rattle.lexical_evaluation.specs.Values.{quoted_function_in}
use Rattle.lexical_evaluation.specs.Machine.{to_come}
use Rattle.lexical_evaluation.proofs.Steps.{next_of, none_to_come}
use Rattle.lexical_evaluation.proofs.Choosing.{count_come}
use Rattle.lexical_evaluation.proofs.Callees.{quoted_none, quoted_many}
use Rattle.lexical_evaluation.proofs.machine.applying.quoted.Goals as goal

pub returns-in-None-pop-clause-gives : goal.returns-in-None-pop-clause-gives
returns-in-None-pop-clause-gives c = λ rules around p.
    ap (quoted_function_in rules around p) (ap rest c.in-Some.ensures.object ∙ none_to_come c.in-Some.forms.items (grind (arith, c.in-None-pop.ensures))) ∙ quoted_none rules around p

pub returns-then-not-is_empty-clause-gives : goal.returns-then-not-is_empty-clause-gives
returns-then-not-is_empty-clause-gives c = λ rules around p.
    let others = c.pop.new.self.items in
    let some : 0 < length others = grind (arith, c.is_empty.ensures, c.if-not-is_empty.true) in
    let more : (count (to_come others) == 0) ≡ false = ap (λ n. n == 0) (count_come others) ∙ grind (arith, nat_tests, some) in
    ap (quoted_function_in rules around p) (ap rest c.in-Some.ensures.object ∙ next_of c.in-Some.forms.items others c.pop.result c.in-Some-pop.named c.pop.ensures.items c.in-Some-pop.is)
    ∙ quoted_many rules around p (object_of c.in-Some-pop.named) (to_come others) more

pub returns-clause-arguments : goal.returns-clause-arguments
returns-clause-arguments c = λ u argument.
    let parts = apart_holds u (object_of c.args.function) c.in-Some._function c.in-Some.forms.items c.in-Some.ensures argument.value in
    c.quoted_form.ensures.arguments u (popped u c.in-Some.forms.items c.pop.new.self.items c.pop.result c.in-Some-pop.named c.pop.ensures.items c.in-Some-pop.is parts.1).1
