-- The index of an indicator in a row of properties, and a write there.
use Rattle.std.proofs.Common.{◌≡◌, ℕ, zero, suc, ◌+◌, ◌<◌, Bool, true, false, cond, None, Some, unwrap_or, Result, Ok, Err, List, [], ◌∷◌, ◌++◌, map, length, get_or, set, ◌≤◌, refl, sym, ap, subst, ◌∙◌, arith}
use Rattle.std.specs.List.{position, position_from, insert, remove}
use Rattle.std.specs.Prelude.{min, OnErr}
use Rattle.std.proofs.lemmas.Iterator.Adapters.{position_from-zero}
use Rattle.lisp_object.specs.Object.{Object, pair}
use Rattle.lisp_object.specs.Datum.{object_of}
use Rattle.lisp_object.specs.declared.datum.Datum.{Datum}
use Rattle.property_rows.specs.declared.property.NumberedProperty.{NumberedProperty}
use Rattle.property_rows.specs.Slots.{no_property, with_value}
use Rattle.plist_state.specs.Views.{numbered_property}
use Rattle.plist_state.specs.Properties.{value_beside, with_value_by, without_value_by}
use Rattle.plist_state.specs.PushedLists.{pushed_list, with_pushed_by}
use Rattle.plist_state.specs.PoppedLists.{popped_list, with_popped_by}
use Rattle.plist_state.specs.Lists.{NumberedPlist, same_number}
use Rattle.plist_state.specs.Undoing.{with_value_at, with_changed_at, without_first, with_inserted}

abbrev pub has : ℕ → NumberedProperty → Bool
has i p = same_number i p.indicator

-- the property at an index
abbrev pub item_at : List NumberedProperty → ℕ → NumberedProperty
item_at items k = get_or items k no_property

pub item_is : (items : List NumberedProperty) (k : ℕ) → item_at items k ≡ get_or items k (item_at items k)
item_is [] k = refl
item_is (p ∷ ps) zero = refl
item_is (p ∷ ps) (suc k) = item_is ps k

-- its value is taken out, and another one put there
value_put : (items : List NumberedProperty) (k : ℕ) (v w : Datum)
    → set (set items k (with_value (item_at items k) v)) k (with_value (item_at (set items k (with_value (item_at items k) v)) k) w) ≡ set items k (with_value (item_at items k) w)
value_put [] k v w = refl
value_put (p ∷ ps) zero v w = refl
value_put (p ∷ ps) (suc k) v w = ap (λ qs. p ∷ qs) (value_put ps k v w)

pub put_back : (items taken later : List NumberedProperty) (k : ℕ) (v w : Datum) → taken ≡ set items k (with_value (item_at items k) v) → later ≡ set taken k (with_value (item_at taken k) w)
    → later ≡ set items k (with_value (item_at items k) w)
put_back items taken later k v w out back = back ∙ ap (λ (xs : List NumberedProperty). set xs k (with_value (item_at xs k) w)) out ∙ value_put items k v w

-- the properties, as pairs
abbrev pub shown : List NumberedProperty → NumberedPlist
shown items = map numbered_property items

-- the indicator stands at index k, and nowhere before
pub record IsFirstAt (items : List NumberedProperty) (i : ℕ) (k : ℕ) : Type 0 where
  pub within : k < length items
  pub written : (x : Object) → with_value_by same_number (shown items) i x ≡ with_value_at (shown items) k x
  pub stands : (d : NumberedProperty) → value_beside same_number (shown items) i ≡ Some (object_of (get_or items k d).value)
  pub cut : shown (remove items k) ≡ without_value_by same_number (shown items) i

pub record IsAbsent (items : List NumberedProperty) (i : ℕ) : Type 0 where
  pub written : (x : Object) → with_value_by same_number (shown items) i x ≡ shown items ++ (i, x) ∷ []
  pub stands : value_beside same_number (shown items) i ≡ None
  pub uncut : without_value_by same_number (shown items) i ≡ shown items

cond_is : {X : Type 0} (a b : Bool) (x y : X) → a ≡ b → cond a x y ≡ cond b x y
cond_is a b x y e = ap (λ t. cond t x y) e

found_from : (items : List NumberedProperty) (i : ℕ) (n m : ℕ) → position_from (has i) n items ≡ Some m → (k : ℕ) × (m ≡ n + k) × IsFirstAt items i k
found_from [] i n m is = cc
found_from (p ∷ ps) i n m is =
    elim (has i p) as (λ b. has i p ≡ b → cond b (Some n) (position_from (has i) (n + 1) ps) ≡ Some m → (k : ℕ) × (m ≡ n + k) × IsFirstAt (p ∷ ps) i k) [
      | true ↦ λ t e. (
        0,
        (let f : n ≡ m = ap (λ o. unwrap_or o m) e in omega arith),
        record {
          within = omega arith;
          written = λ x. cond_is _ _ _ _ t;
          stands = λ d. cond_is _ _ _ _ t;
          cut = sym (cond_is _ _ _ _ t);
        },
      )
      | false ↦ λ t e. let h : (k : ℕ) × (m ≡ (n + 1) + k) × IsFirstAt ps i k = found_from ps i (n + 1) m e in (
        suc h.0,
        (let f : m ≡ (n + 1) + h.0 = h.1 in omega arith),
        record {
          within = (let f : h.0 < length ps = h.2.within in omega arith);
          written = λ x. cond_is _ _ _ _ t ∙ ap (λ qs. numbered_property p ∷ qs) (h.2.written x);
          stands = λ d. cond_is _ _ _ _ t ∙ h.2.stands d;
          cut = ap (λ qs. numbered_property p ∷ qs) h.2.cut ∙ sym (cond_is _ _ _ _ t);
        },
      )
    ] refl is

absent_from : (items : List NumberedProperty) (i : ℕ) (n : ℕ) → position_from (has i) n items ≡ None → IsAbsent items i
absent_from [] i n is = record { written = λ x. refl; stands = refl; uncut = refl }
absent_from (p ∷ ps) i n is =
    elim (has i p) as (λ b. has i p ≡ b → cond b (Some n) (position_from (has i) (n + 1) ps) ≡ None → IsAbsent (p ∷ ps) i) [
      | true ↦ λ t e. absurd (cc)
      | false ↦ λ t e. let h : IsAbsent ps i = absent_from ps i (n + 1) e in
          record {
            written = λ x. cond_is _ _ _ _ t ∙ ap (λ qs. numbered_property p ∷ qs) (h.written x);
            stands = cond_is _ _ _ _ t ∙ h.stands;
            uncut = cond_is _ _ _ _ t ∙ ap (λ qs. numbered_property p ∷ qs) h.uncut;
          }
    ] refl is

pub first_at : (items : List NumberedProperty) (i : ℕ) (k : ℕ) → position (has i) items ≡ Some k → IsFirstAt items i k
first_at items i k is =
    let h : (j : ℕ) × (k ≡ 0 + j) × IsFirstAt items i j = found_from items i 0 k (sym (position_from-zero (has i) items) ∙ is) in
    let e : h.0 ≡ k = (let f : k ≡ 0 + h.0 = h.1 in omega arith) in
    subst (IsFirstAt items i) e h.2

pub absent : (items : List NumberedProperty) (i : ℕ) → position (has i) items ≡ None → IsAbsent items i
absent items i is = absent_from items i 0 (sym (position_from-zero (has i) items) ∙ is)

-- a value is set at index k, where p stands
pub shown-set : (items : List NumberedProperty) (k : ℕ) (p : NumberedProperty) (v : Datum) → p ≡ get_or items k p → shown (set items k (record { indicator = p.indicator; order = p.order; value = v })) ≡ with_value_at (shown items) k (object_of v)
shown-set [] k p v e = refl
shown-set (q ∷ qs) zero p v e = ap (λ (t : NumberedProperty). (t.indicator, object_of v) ∷ shown qs) e
shown-set (q ∷ qs) (suc k) p v e = ap (λ ps. numbered_property q ∷ ps) (shown-set qs k p v e)

-- the value that stands there is set there
pub with_value_at-same : (items : List NumberedProperty) (k : ℕ) (p : NumberedProperty) → p ≡ get_or items k p → with_value_at (shown items) k (object_of p.value) ≡ shown items
with_value_at-same [] k p e = refl
with_value_at-same (q ∷ qs) zero p e = ap (λ (t : NumberedProperty). (q.indicator, object_of t.value) ∷ shown qs) e
with_value_at-same (q ∷ qs) (suc k) p e = ap (λ ps. numbered_property q ∷ ps) (with_value_at-same qs k p e)

-- of two values that are set at one index the second stands
pub with_value_at-twice : (ps : NumberedPlist) (k : ℕ) (x y : Object) → with_value_at (with_value_at ps k x) k y ≡ with_value_at ps k y
with_value_at-twice [] k x y = refl
with_value_at-twice (p ∷ ps) zero x y = refl
with_value_at-twice (p ∷ ps) (suc k) x y = ap (λ qs. p ∷ qs) (with_value_at-twice ps k x y)

-- the list at the index of an indicator, with an item more in front
pub stands_at : (items : List NumberedProperty) (i k : ℕ) (p : NumberedProperty) → position (has i) items ≡ Some k → p ≡ get_or items k p
    → value_beside same_number (shown items) i ≡ Some (object_of p.value)
stands_at items i k p at is = (first_at items i k at).stands p ∙ ap (λ (q : NumberedProperty). Some (object_of q.value)) (sym is)

pub pushed_at : (items : List NumberedProperty) (i k : ℕ) (p : NumberedProperty) (v x : Datum) → position (has i) items ≡ Some k → p ≡ get_or items k p → object_of v ≡ pair (object_of x) (object_of p.value)
    → shown (set items k (record { indicator = p.indicator; order = p.order; value = v })) ≡ with_pushed_by same_number (shown items) i (object_of x)
pushed_at items i k p v x at is made =
    shown-set items k p v is ∙ ap (with_value_at (shown items) k) made
    ∙ sym ((first_at items i k at).written (pair (object_of x) (object_of p.value)))
    ∙ ap (λ o. with_value_by same_number (shown items) i (pushed_list (object_of x) o)) (sym (stands_at items i k p at is))

-- the list at the index of an indicator, without its first item
pub popped_at : (items : List NumberedProperty) (i k : ℕ) (p : NumberedProperty) (v : Datum) → position (has i) items ≡ Some k → p ≡ get_or items k p → object_of v ≡ without_first (object_of p.value)
    → shown (set items k (record { indicator = p.indicator; order = p.order; value = v })) ≡ with_popped_by same_number (shown items) i
popped_at items i k p v at is made =
    shown-set items k p v is ∙ ap (with_value_at (shown items) k) made
    ∙ sym ((first_at items i k at).written (without_first (object_of p.value)))
    ∙ ap (λ o. with_value_by same_number (shown items) i (popped_list o)) (sym (stands_at items i k p at is))

-- the list as it was, where there was no memory
pub unpushed : {A E : Type 0} (r : Result A E) (items : List NumberedProperty) (k : ℕ) (p : NumberedProperty) (v : Datum) → p ≡ get_or items k p → object_of v ≡ object_of p.value
    → OnErr r (shown (set items k (record { indicator = p.indicator; order = p.order; value = v })) ≡ shown items)
unpushed (Ok x) items k p v is same = tt
unpushed (Err e) items k p v is same =
    shown-set items k p v is ∙ ap (with_value_at (shown items) k) same ∙ with_value_at-same items k p is

-- the value at an index, of which something makes the earlier one
pub changed_back : (f : Object → Object) (items : List NumberedProperty) (k : ℕ) (p : NumberedProperty) (v : Datum) → p ≡ get_or items k p → f (object_of v) ≡ object_of p.value
    → with_changed_at f (shown (set items k (record { indicator = p.indicator; order = p.order; value = v }))) k ≡ shown items
changed_back f [] k p v is made = refl
changed_back f (q ∷ qs) zero p v is made =
    ap (λ o. (p.indicator, o) ∷ shown qs) made ∙ ap (λ (t : NumberedProperty). numbered_property t ∷ shown qs) is
changed_back f (q ∷ qs) (suc k) p v is made = ap (λ ps. numbered_property q ∷ ps) (changed_back f qs k p v is made)

-- what is made of the value at an index
pub shown-changed : (f : Object → Object) (items : List NumberedProperty) (k : ℕ) (p : NumberedProperty) (v : Datum) → p ≡ get_or items k p → object_of v ≡ f (object_of p.value)
    → shown (set items k (record { indicator = p.indicator; order = p.order; value = v })) ≡ with_changed_at f (shown items) k
shown-changed f [] k p v is made = refl
shown-changed f (q ∷ qs) zero p v is made =
    ap (λ o. (p.indicator, o) ∷ shown qs) made ∙ ap (λ (t : NumberedProperty). (t.indicator, f (object_of t.value)) ∷ shown qs) is
shown-changed f (q ∷ qs) (suc k) p v is made = ap (λ ps. numbered_property q ∷ ps) (shown-changed f qs k p v is made)

pub with_changed_at-past : (f : Object → Object) (ps : NumberedPlist) (k : ℕ) → length ps ≤ k → with_changed_at f ps k ≡ ps
with_changed_at-past f [] k h = refl
with_changed_at-past f (p ∷ ps) zero h = absurd (omega arith)
with_changed_at-past f (p ∷ ps) (suc k) h = ap (λ qs. p ∷ qs) (with_changed_at-past f ps k (omega arith))

-- an index past the end
pub with_value_at-past : (ps : NumberedPlist) (k : ℕ) (x : Object) → length ps ≤ k → with_value_at ps k x ≡ ps
with_value_at-past [] k x h = refl
with_value_at-past (p ∷ ps) zero x h = absurd (omega arith)
with_value_at-past (p ∷ ps) (suc k) x h = ap (λ qs. p ∷ qs) (with_value_at-past ps k x (omega arith))

-- a property that was taken out, put back
pub inserted-removed : (items : List NumberedProperty) (k : ℕ) (p : NumberedProperty) → k < length items → p ≡ get_or items k p → with_inserted (shown (remove items k)) k (numbered_property p) ≡ shown items
inserted-removed [] k p h e = absurd (omega arith)
inserted-removed (q ∷ []) zero p h e = ap (λ (t : NumberedProperty). numbered_property t ∷ []) e
inserted-removed (q ∷ r ∷ qs) zero p h e = ap (λ (t : NumberedProperty). numbered_property t ∷ numbered_property r ∷ shown qs) e
inserted-removed (q ∷ qs) (suc k) p h e = ap (λ ps. numbered_property q ∷ ps) (inserted-removed qs k p (omega arith) e)

-- a property, put at an index or at the end
pub shown-insert : (items : List NumberedProperty) (k j : ℕ) (p : NumberedProperty) → j ≡ min k (length items) → shown (insert items j p) ≡ with_inserted (shown items) k (numbered_property p)
shown-insert [] k zero p e = refl
shown-insert [] k (suc j) p e = absurd (omega (arith, e))
shown-insert (q ∷ qs) zero zero p e = refl
shown-insert (q ∷ qs) zero (suc j) p e = absurd (omega (arith, e))
shown-insert (q ∷ qs) (suc k) zero p e = absurd (omega (arith, e))
shown-insert (q ∷ qs) (suc k) (suc j) p e = ap (λ ps. numbered_property q ∷ ps) (shown-insert qs k j p (omega (arith, e)))

pub length-inserted : (ps : NumberedPlist) (k : ℕ) (p : ℕ × Object) → length (with_inserted ps k p) ≡ suc (length ps)
length-inserted [] k p = refl
length-inserted (q ∷ ps) zero p = refl
length-inserted (q ∷ ps) (suc k) p = ap suc (length-inserted ps k p)
