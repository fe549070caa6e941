-- How deep a list is, and that what holds of its objects holds of it.
use Rattle.std.proofs.Common.{◌≡◌, ℕ, suc, ◌-◌, ◌≤◌, List, [], ◌∷◌, All, Some, subst, arith}
use Rattle.std.proofs.lemmas.List.Elements.{All-head, All-tail}
use Rattle.lisp_object.specs.Object as o
use Rattle.lisp_object.specs.Object.{Object, nil, pairs, list_of, AllAtoms, object_depth, depth_along}
use Rattle.std_macros.specs.Values.{last_of}
use Rattle.lisp_reading.proofs.Forms.{first}

along_within : (x : Object) → depth_along x ≤ object_depth x
along_within (o.pair a b) = omega arith
along_within (o.vector xs) = omega arith
along_within (o.integer n) = omega arith
along_within (o.rational n d) = omega arith
along_within (o.character c) = omega arith
along_within (o.text bytes) = omega arith
along_within (o.symbol home own) = omega arith
along_within (o.uninterned own) = omega arith

module _ (P : Object → Type 0) where
  -- P holds of its atoms, and it is at most so deep
  abbrev pub Within : ℕ → Object → Type 0
  Within room x = (object_depth x ≤ room) × AllAtoms P x

  -- the same as the end of a list
  abbrev Along : ℕ → Object → Type 0
  Along room x = (depth_along x ≤ room) × AllAtoms P x

  pairs_along : (room : ℕ) (xs : List Object) (tail : Object) → All (Within room) xs → Along room tail → Along room (pairs xs tail)
  pairs_along room [] tail all end = end
  pairs_along room (x ∷ xs) tail all end =
      let rest = pairs_along room xs tail (All-tail (Within room) x xs all) end in
      let first = All-head (Within room) x xs all in
      (omega (arith, rest.0, first.0), (first.1, rest.1))

  pub pairs_within : (room : ℕ) (xs : List Object) (tail : Object) → All (Within room) xs → Within room tail → Within (suc room) (pairs xs tail)
  pairs_within room [] tail all end = (omega (arith, end.0), end.1)
  pairs_within room (x ∷ xs) tail all end =
      let whole = pairs_along room (x ∷ xs) tail all (omega (arith, end.0, along_within tail), end.1) in
      (omega (arith, whole.0), whole.1)

  pub vector_within : (room : ℕ) (xs : List Object) → P nil → All (Within room) xs → Within (suc room) (o.vector (list_of xs))
  vector_within room xs end all =
      let whole = pairs_along room xs nil all (omega arith, end) in
      (omega (arith, whole.0), whole.1)

  pub last_within : (room : ℕ) (xs : List Object) (x : Object) → last_of xs ≡ Some x → All (Within room) xs → Within room x
  unfolding last_of
  last_within room [] x e all = absurd cc
  last_within room (y ∷ []) x e all = let same : y ≡ x = cc in subst (Within room) same (All-head (Within room) y [] all)
  last_within room (y ∷ z ∷ zs) x e all = last_within room (z ∷ zs) x e (All-tail (Within room) y (z ∷ zs) all)
