-- The sizes that are noted of lists.
--     counted_size      the size of a list with items
--     no_sizes      none is noted
--     forgotten, noted      what `remove` and `insert` leave
--     same_others, others_with, others_without      the sizes of all other properties, after a change of one
--     size_pushed      a list with an item more
use Rattle.std.proofs.Common.{◌≡◌, ◌≢◌, ℕ, ◌<◌, ◌-◌, ◌^◌, min, List, length, true, false, cond, Option, None, Some, unwrap_or, [], ◌∷◌, refl, sym, ap, subst, ◌∙◌, arith}
use Rattle.std.specs.Prelude.{◌==◌}
use Rattle.std.specs.Ordering.{nat_cmp, eq_by_cmp}
use Rattle.std.specs.FinMap as finite
use Rattle.std.proofs.lemmas.Bool.{false≢true}
use Rattle.std.proofs.lemmas.Bool.Decides.{nat_tests}
use Rattle.lisp_object.specs.declared.datum.Datum
use Rattle.lisp_object.specs.declared.datum.Datum.{Datum}
use Rattle.lisp_object.specs.Object.{Object, object_size}
use Rattle.lisp_object.specs.Datum.{object_of, is_proper}
use Rattle.lisp_object.proofs.Objects.{object_of-List, object_of-dotted}
use Rattle.lisp_object.proofs.ProperLists.{items_of_proper}
use Rattle.plist_state.specs.Properties.{value_beside, with_value_by, without_value_by}
use Rattle.plist_state.specs.Lists.{NumberedPlist, NumberedLists, same_number, plist_of_number, with_row, value_in, with_value_in, without_value_in}
use Rattle.plist_state.specs.PushedLists.{pair_size, pushed_list, with_pushed_in, with_pushed_by}
use Rattle.plist_state.specs.Sizes.{Sizes, size_key, size_at, AreSizes, AreOtherSizes}
use Rattle.plist_state.proofs.Lists.{kept}
use Rattle.plist_state.proofs.ListRows.{one_number, number_tied, get-with_row, row-with_row}
use Rattle.plist_state.proofs.Placing.{value_at}

one_owner : (i j x y : ℕ) → j < 4294967296 → y < 4294967296 → size_key x y ≡ size_key i j → i ≡ x
one_owner i j x y a b e = omega (arith, a, b, e)

one_indicator : (i j x y : ℕ) → j < 4294967296 → y < 4294967296 → size_key x y ≡ size_key i j → j ≡ y
one_indicator i j x y a b e = omega (arith, a, b, e)

size_of_items : (items : List Datum) (tail : Option Datum) → 0 < length items
    → pair_size (Some (object_of (Datum.List items tail))) ≡ Some (min (object_size (object_of (Datum.List items tail))) (2 ^ 64 - 1))
size_of_items [] tail some = absurd (omega arith)
size_of_items (a ∷ more) None some = subst (λ (x : Object). pair_size (Some x) ≡ Some (min (object_size x) (2 ^ 64 - 1))) (sym (object_of-List (a ∷ more))) refl
size_of_items (a ∷ more) (Some end) some = subst (λ (x : Object). pair_size (Some x) ≡ Some (min (object_size x) (2 ^ 64 - 1))) (sym (object_of-dotted (a ∷ more) end)) refl

pub counted_size : (d : Datum) (items : List Datum) (tail : Option Datum) → d ≡ Datum.List items tail → is_proper d ≡ true
    → pair_size (Some (object_of d)) ≡ Some (min (object_size (object_of d)) (2 ^ 64 - 1))
counted_size d items tail is proper =
    subst (λ (e : Datum). pair_size (Some (object_of e)) ≡ Some (min (object_size (object_of e)) (2 ^ 64 - 1))) (sym is)
    (size_of_items items tail ((items_of_proper items tail (ap is_proper (sym is) ∙ proper)).0))

pub no_sizes : (m : NumberedLists) (sizes : Sizes) → sizes ≡ [] → AreSizes m sizes
no_sizes m sizes none = subst (AreSizes m) (sym none) (λ i j n within is. absurd (cc))

-- what a map has with another value, or none, at one key
abbrev pub IsSet : Sizes → Sizes → ℕ → Option ℕ → Type 0
IsSet old new k o = (q : ℕ) → value_at new q ≡ cond (eq_by_cmp nat_cmp k q) o (value_at old q)

module _ (m : NumberedLists) (x y : ℕ) (old new : Sizes) (others : AreOtherSizes m x y old) where
  pub forgotten : IsSet old new (size_key x y) None → AreSizes m new
  forgotten set i j n within is =
      elim (eq_by_cmp nat_cmp (size_key x y) (size_key i j)) as (λ b. eq_by_cmp nat_cmp (size_key x y) (size_key i j) ≡ b → pair_size (value_in m i j) ≡ Some n) [
        | true ↦ λ t.
            let none : None ≡ Some n = sym (set (size_key i j) ∙ ap (λ b. cond b None (size_at old i j)) t) ∙ is in
            absurd (cc)
        | false ↦ λ t. others i j n within t (sym (set (size_key i j) ∙ ap (λ b. cond b None (size_at old i j)) t) ∙ is)
      ] refl

  pub noted : (size : ℕ) → y < 4294967296 → pair_size (value_in m x y) ≡ Some size → IsSet old new (size_key x y) (Some size) → AreSizes m new
  noted size below there set i j n within is =
      elim (eq_by_cmp nat_cmp (size_key x y) (size_key i j)) as (λ b. eq_by_cmp nat_cmp (size_key x y) (size_key i j) ≡ b → pair_size (value_in m i j) ≡ Some n) [
        | true ↦ λ t.
            let same : size_key x y ≡ size_key i j = one_number (size_key x y) (size_key i j) t in
            (λ k. pair_size (value_in m (one_owner i j x y within below same k) (one_indicator i j x y within below same k)))
            ∙ there ∙ sym (set (size_key i j) ∙ ap (λ b. cond b (Some size) (size_at old i j)) t) ∙ is
        | false ↦ λ t. others i j n within t (sym (set (size_key i j) ∙ ap (λ b. cond b (Some size) (size_at old i j)) t) ∙ is)
      ] refl

-- ---- values beside other indicators
apart : (a b : ℕ) → a ≢ b → (a == b) ≡ false
apart a b other = grind (arith, nat_tests, other)

itself : (a : ℕ) → (a == a) ≡ true
itself a = grind (arith, nat_tests)

elsewhere_with : (ps : NumberedPlist) (y j : ℕ) (v : Object) → j ≢ y → value_beside same_number (with_value_by same_number ps y v) j ≡ value_beside same_number ps j
elsewhere_with [] y j v other = ap (λ b. cond b (Some v) None) (apart j y other)
elsewhere_with (p ∷ ps) y j v other =
    elim (same_number y p.0) as (λ b. same_number y p.0 ≡ b → value_beside same_number (cond b ((p.0, v) ∷ ps) (p ∷ with_value_by same_number ps y v)) j ≡ value_beside same_number (p ∷ ps) j) [
      | true ↦ λ t.
          let there : same_number j p.0 ≡ false = grind (arith, nat_tests, t, other) in
          ap (λ b. cond b (Some v) (value_beside same_number ps j)) there ∙ ap (λ b. cond b (Some p.1) (value_beside same_number ps j)) (sym there)
      | false ↦ λ t. ap (cond (same_number j p.0) (Some p.1)) (elsewhere_with ps y j v other)
    ] refl

elsewhere_without : (ps : NumberedPlist) (y j : ℕ) → j ≢ y → value_beside same_number (without_value_by same_number ps y) j ≡ value_beside same_number ps j
elsewhere_without [] y j other = refl
elsewhere_without (p ∷ ps) y j other =
    elim (same_number y p.0) as (λ b. same_number y p.0 ≡ b → value_beside same_number (cond b ps (p ∷ without_value_by same_number ps y)) j ≡ value_beside same_number (p ∷ ps) j) [
      | true ↦ λ t.
          let there : same_number j p.0 ≡ false = grind (arith, nat_tests, t, other) in
          ap (λ b. cond b (Some p.1) (value_beside same_number ps j)) (sym there)
      | false ↦ λ t. ap (cond (same_number j p.0) (Some p.1)) (elsewhere_without ps y j other)
    ] refl

put_there : (ps : NumberedPlist) (y : ℕ) (v : Object) → value_beside same_number (with_value_by same_number ps y v) y ≡ Some v
put_there [] y v = ap (λ b. cond b (Some v) None) (itself y)
put_there (p ∷ ps) y v =
    elim (same_number y p.0) as (λ b. same_number y p.0 ≡ b → value_beside same_number (cond b ((p.0, v) ∷ ps) (p ∷ with_value_by same_number ps y v)) y ≡ Some v) [
      | true ↦ λ t. ap (λ b. cond b (Some v) (value_beside same_number ps y)) t
      | false ↦ λ t. ap (λ b. cond b (Some p.1) (value_beside same_number (with_value_by same_number ps y v) y)) t ∙ put_there ps y v
    ] refl

-- ---- after a change of one property
module _ (m : NumberedLists) (x y : ℕ) where
  value_elsewhere : (ps : NumberedPlist) → ((j : ℕ) → j ≢ y → value_beside same_number ps j ≡ value_beside same_number (plist_of_number m x) j)
      → (i j : ℕ) → eq_by_cmp nat_cmp (size_key x y) (size_key i j) ≡ false → value_in (with_row m x ps) i j ≡ value_in m i j
  value_elsewhere ps same i j differ =
      elim (eq_by_cmp nat_cmp i x) as (λ b. eq_by_cmp nat_cmp i x ≡ b → value_in (with_row m x ps) i j ≡ value_in m i j) [
        | true ↦ λ t.
            let is : i ≡ x = one_number i x t in
            let other : j ≢ y = λ e. false≢true (sym differ ∙ (λ k. eq_by_cmp nat_cmp (size_key x y) (size_key (is k) (e k))) ∙ number_tied (size_key x y)) in
            ap (λ k. value_in (with_row m x ps) k j) is ∙ ap (λ l. value_beside same_number l j) (row-with_row m x ps) ∙ same j other ∙ ap (λ k. value_in m k j) (sym is)
        | false ↦ λ t. ap (λ o. value_beside same_number (unwrap_or o []) j) (get-with_row m x ps i ∙ ap (λ b. cond b (kept ps) (finite.get m i)) t)
      ] refl

  module _ (sizes : Sizes) (are : AreSizes m sizes) where
    pub same_others : AreOtherSizes m x y sizes
    same_others i j n within differ is = are i j n within is

    pub others_with : (v : Object) → AreOtherSizes (with_value_in m x y v) x y sizes
    others_with v i j n within differ is =
        ap pair_size (value_elsewhere (with_value_by same_number (plist_of_number m x) y v) (λ k other. elsewhere_with (plist_of_number m x) y k v other) i j differ) ∙ are i j n within is

    pub others_without : AreOtherSizes (without_value_in m x y) x y sizes
    others_without i j n within differ is =
        ap pair_size (value_elsewhere (without_value_by same_number (plist_of_number m x) y) (λ k other. elsewhere_without (plist_of_number m x) y k other) i j differ) ∙ are i j n within is

  pub size_pushed : (v : Object) (size : ℕ) → pair_size (Some (pushed_list v (value_in m x y))) ≡ Some size → pair_size (value_in (with_pushed_in m x y v) x y) ≡ Some size
  size_pushed v size is =
      ap pair_size (ap (λ l. value_beside same_number l y) (row-with_row m x (with_pushed_by same_number (plist_of_number m x) y v)) ∙ put_there (plist_of_number m x) y (pushed_list v (value_in m x y))) ∙ is
