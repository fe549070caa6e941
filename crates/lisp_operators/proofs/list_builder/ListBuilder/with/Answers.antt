use Rattle.std.proofs.Common.{sym, subst, ◌∙◌}
use Rattle.lisp_object.specs.Object.{object_depth}
use Rattle.lisp_object.specs.Datum.{object_of}
use Rattle.lisp_operators.specs.ListBuilder.{HoldsList}
use Rattle.lisp_operators.proofs.ListBuilding.{not_deep, deep_more, deep_still, shallow_more, large_still}
use Rattle.lisp_operators.proofs.list_builder.ListBuilder.with.Goals as goal

pub returns-then-is_too_deep_within : goal.returns-then-is_too_deep_within
returns-then-is_too_deep_within c = λ xs holds. deep_more xs (object_of c.args.value) (sym c.is_too_deep_within.ensures.value ∙ c.if-is_too_deep_within.true)

pub returns-in-TooDeep : goal.returns-in-TooDeep
returns-in-TooDeep c = λ xs holds. deep_still xs (object_of c.args.value) (subst (HoldsList xs) c.in-TooDeep.is holds)

pub returns-in-TooLarge : goal.returns-in-TooLarge
returns-in-TooLarge c = λ xs holds.
    let large = subst (HoldsList xs) c.in-TooLarge.is holds in
    let shallow = not_deep (object_depth (object_of c.args.value)) (sym c.is_too_deep_within.ensures.value ∙ c.if-is_too_deep_within.false) in
    (shallow_more xs (object_of c.args.value) shallow large.0, large_still xs (object_of c.args.value) large.1)
