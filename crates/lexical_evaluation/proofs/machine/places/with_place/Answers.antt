use Rattle.lexical_evaluation.specs.Arguments.{AreArguments}
use Rattle.lexical_evaluation.proofs.Handing.{all_more, items_hold}
use Rattle.std.proofs.Common.{sym, ap, subst, ◌∙◌, arith}
use Rattle.lisp_object.specs.Datum.{object_of, is_proper}
use Rattle.lisp_object.proofs.ProperLists.{items_of_proper}
use Rattle.lisp_operators.specs.EvaluationAnswers.{AreProper}
use Rattle.evaluator.specs.ArgumentValues.{arguments_in}
use Rattle.lexical_evaluation.specs.Machine.{to_come}
use Rattle.lexical_evaluation.proofs.Apart.{atom_so, items_proper}
use Rattle.lexical_evaluation.proofs.Places.{place_values, atom_values}
use Rattle.lexical_evaluation.proofs.machine.places.with_place.Goals as goal

pub arguments-subforms-requires-clause-proper : goal.arguments-subforms-requires-clause-proper
arguments-subforms-requires-clause-proper c = subst AreProper (sym c.into_vec.ensures) (items_proper c.args.place c.in-Ok.items c.in-Ok._tail c.in-Ok.ensures.list c.requires.proper)

pub returns-in_ok-append-in-Ok-clause-gives : goal.returns-in_ok-append-in-Ok-clause-gives
returns-in_ok-append-in-Ok-clause-gives c = λ rules around p.
    place_values rules around p c.args.place c.in-Ok.items c.in-Ok._tail c.args.forms.items c.arguments-subforms.result.items c.append.new.self.items c.in-Ok.ensures.list c.requires.proper c.requires.place
    (omega (arith, (items_of_proper c.in-Ok.items c.in-Ok._tail (ap is_proper (sym c.in-Ok.ensures.list) ∙ c.requires.proper)).0))
    (c.arguments-subforms.ensures.forms ∙ ap arguments_in c.into_vec.ensures) c.in_ok-append-in-Ok.ensures.items

pub returns-in-Err-clause-gives : goal.returns-in-Err-clause-gives
returns-in-Err-clause-gives c = λ rules around p. atom_values rules around p (object_of c.args.place) (to_come c.args.forms.items) c.requires.place (atom_so c.args.place c.in-Err.ensures.other)

pub returns-in_ok-append-in-Ok-clause-arguments : goal.returns-in_ok-append-in-Ok-clause-arguments
returns-in_ok-append-in-Ok-clause-arguments c = λ u forms place.
    all_more u c.args.forms.items c.arguments-subforms.result.items c.append.new.self.items c.in_ok-append-in-Ok.ensures.items forms
    (c.arguments-subforms.ensures.arguments u (subst (AreArguments u) (sym c.into_vec.ensures) (items_hold u c.args.place c.in-Ok.items c.in-Ok._tail c.in-Ok.ensures.list place)))

pub returns-in-Err-clause-arguments : goal.returns-in-Err-clause-arguments
returns-in-Err-clause-arguments c = λ u forms place. forms
