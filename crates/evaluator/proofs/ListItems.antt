-- One value more for a list, where less is asked of it once no list can be built.
--     held_so      of what stands for it the list's values hold as of itself
use Rattle.std.proofs.Common.{◌≡◌, ◌<◌, ◌≤◌, Bool, true, false, cond, nat_lt, pos, List, [], ◌∷◌, ◌++◌, refl, sym, subst, arith}
use Rattle.lisp_object.specs.Object.{Object, integer, list_of, object_depth, depth_along}
use Rattle.lisp_operators.specs.declared.list_builder.ListBuilder.{ListBuilder}
use Rattle.lisp_operators.specs.declared.list_builder.ListBuilder.TheVariants.{Within, TooDeep, TooLarge}
use Rattle.lisp_operators.specs.ListBuilder.{HoldsList}
use Rattle.lisp_operators.proofs.ListBuilding.{deep_more, deep_still, shallow_more, large_still, not_deep}
use Rattle.evaluator.specs.StandIns.{stand_in, wanted_for}
use Rattle.evaluator.specs.declared.wanted.ValueUse.TheVariants.{Depth}

module _ (xs : List Object) (x y : Object) where
  -- what is too deep for an item is not replaced
  shallow_so : (b : Bool) → nat_lt 99 (object_depth x) ≡ b → stand_in Depth x ≡ y → depth_along (list_of (xs ++ y ∷ [])) < 100 → object_depth x < 100
  shallow_so true deep same shallow =
      absurd (omega (arith, shallow, deep_more xs y (subst (λ z. nat_lt 99 (object_depth z) ≡ true) (by_test deep same) deep)))
    where
      by_test : nat_lt 99 (object_depth x) ≡ true → stand_in Depth x ≡ y → x ≡ y
      by_test is stands = subst (λ t. cond t x (integer (pos 1)) ≡ y) is stands
  shallow_so false shallow same _ = not_deep (object_depth x) shallow

  deep_so : (b : Bool) → nat_lt 99 (object_depth x) ≡ b → stand_in Depth x ≡ y → depth_along (list_of xs) < 100 → 100 ≤ depth_along (list_of (xs ++ y ∷ []))
      → 100 ≤ depth_along (list_of (xs ++ x ∷ []))
  deep_so true deep same others is = deep_more xs x deep
  deep_so false shallow same others is =
      absurd (omega (arith, is, shallow_more xs y (subst (λ z. object_depth z < 100) (by_test shallow same) (omega arith)) others))
    where
      by_test : nat_lt 99 (object_depth x) ≡ false → stand_in Depth x ≡ y → integer (pos 1) ≡ y
      by_test is' stands = subst (λ t. cond t x (integer (pos 1)) ≡ y) is' stands

  pub held_so : (so_far next : ListBuilder) → stand_in (wanted_for so_far) x ≡ y → HoldsList xs so_far → HoldsList (xs ++ y ∷ []) next → HoldsList (xs ++ x ∷ []) next
  held_so (Within values size) next same holds is = subst (λ z. HoldsList (xs ++ z ∷ []) next) (sym same) is
  held_so TooDeep (Within values size) same deep is = absurd (omega (arith, deep_still xs y deep, is.4))
  held_so TooDeep TooDeep same deep is = deep_still xs x deep
  held_so TooDeep TooLarge same deep is = absurd (omega (arith, deep_still xs y deep, is.0))
  held_so TooLarge (Within values size) same large is = absurd (omega (arith, large_still xs y large.1, is.2, is.3))
  held_so TooLarge TooDeep same large is = deep_so (nat_lt 99 (object_depth x)) refl same large.0 is
  held_so TooLarge TooLarge same large is =
      (shallow_more xs x (shallow_so (nat_lt 99 (object_depth x)) refl same is.0) large.0, large_still xs x large.1)
