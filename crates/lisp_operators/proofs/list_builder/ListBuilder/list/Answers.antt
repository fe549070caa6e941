use Rattle.std.proofs.Common.{◌<◌, refl, sym, ap, subst, ◌∙◌}
use Rattle.lisp_object.specs.Object.{list_of}
use Rattle.lisp_operators.specs.Evaluation.{gives}
use Rattle.lisp_operators.specs.ListBuilder.{HoldsList}
use Rattle.lisp_operators.proofs.ListBuilding.{listed, listed_too_deep, listed_too_large, all_proper}
use Rattle.lisp_operators.proofs.list_builder.ListBuilder.list.Goals as goal

pub returns-in_ok-list-in-Within : goal.returns-in_ok-list-in-Within
returns-in_ok-list-in-Within c = λ xs holds.
    let held = subst (HoldsList xs) c.in-Within.is holds in (
      (λ s. listed xs s held.4 (subst (λ n. n < 1000000) held.2 held.3) ∙ ap (λ x. gives x s) (sym (c.in_ok-list-in-Within.ensures.object ∙ ap list_of held.0))),
      c.in_ok-list-in-Within.ensures.proper (all_proper c.in-Within.values.items held.1) refl,
    )

pub returns-in-TooDeep : goal.returns-in-TooDeep
returns-in-TooDeep c = λ xs holds. ((λ s. listed_too_deep xs s (subst (HoldsList xs) c.in-TooDeep.is holds)), tt)

pub returns-in-TooLarge : goal.returns-in-TooLarge
returns-in-TooLarge c = λ xs holds. let large = subst (HoldsList xs) c.in-TooLarge.is holds in ((λ s. listed_too_large xs s large.0 large.1), tt)
