-- The parts of a proper datum, where it stands for a text, a list or a number.
use Rattle.std.proofs.Common.{◌≡◌, ℕ, suc, ◌-◌, ◌<◌, List, [], ◌∷◌, length, map, take, drop, get_or, Option, Some, None, true, refl, sym, ap, subst, ◌∙◌, arith}
use Rattle.std.specs.List.{list_all}
use Rattle.std.proofs.Math.Seq.{take-length}
use Rattle.std.proofs.lemmas.List.{get_or-map, length-map}
use Rattle.std.proofs.lemmas.Bool.{and_parts, false≢true}
use Rattle.lisp_object.specs.declared.datum.Datum
use Rattle.lisp_object.specs.declared.datum.Datum.{Datum}
use Rattle.lisp_object.specs.Object.{Object, list_of, object_is_list, is_proper_list}
use Rattle.lisp_object.specs.Datum.{object_of, is_proper}
use Rattle.lisp_object.proofs.Objects.{object_of-List, object_of-dotted, object_of-Symbol}
use Rattle.lisp_object.proofs.Lists.{is_list-other}
use Rattle.lisp_object.proofs.ProperLists.{end_of_proper, items_of_proper, no_list_object, no_proper_list, pairs_proper, proper_pairs}
use Rattle.std.specs.Prelude.{◌≢◌, codes}
use Rattle.snapshot_text.proofs.ReadRows.{passing_item}
use Rattle.world_text.proofs.RowsByKey.{same_list}

-- the items of NIL
pub items_of_nil : (d : Datum) (xs : List Object) → d ≡ Datum.Symbol (codes "COMMON-LISP") (codes "NIL") → object_of d ≡ list_of xs → map object_of [] ≡ xs
items_of_nil d xs is e = same_list [] xs (sym (object_of-Symbol (codes "COMMON-LISP") (codes "NIL")) ∙ ap object_of (sym is) ∙ e)

-- the items of a list that ends in NIL
pub items_of_list : (d : Datum) (items : List Datum) (xs : List Object) → d ≡ Datum.List items None → is_proper d ≡ true → object_of d ≡ list_of xs
    → (map object_of items ≡ xs) × (list_all is_proper items ≡ true)
items_of_list d items xs is proper e = (
  same_list (map object_of items) xs (sym (object_of-List items) ∙ ap object_of (sym is) ∙ e),
  (items_of_proper items None (ap is_proper (sym is) ∙ proper)).1,
)

-- a list that ends in no list is no proper one
pub no_end : (d : Datum) (items : List Datum) (tail : Datum) (xs : List Object) → d ≡ Datum.List items (Some tail) → is_proper d ≡ true → object_of d ≡ list_of xs → ⊥
no_end d items tail xs is proper e =
    let last = end_of_proper items tail (ap is_proper (sym is) ∙ proper) in
    false≢true (sym (no_proper_list (object_of tail) (no_list_object tail last.0 last.1))
    ∙ sym (pairs_proper (map object_of items) (object_of tail)) ∙ ap is_proper_list (sym (object_of-dotted items tail) ∙ ap object_of (sym is) ∙ e) ∙ proper_pairs xs)

-- nor is what is no list
pub no_list : (d : Datum) (xs : List Object) → ((items : List Datum) (tail : Option Datum) → d ≡ Datum.List items tail → ⊥)
    → d ≢ Datum.Symbol (codes "COMMON-LISP") (codes "NIL") → is_proper d ≡ true → object_of d ≡ list_of xs → ⊥
no_list d xs not_list not_nil proper e =
    false≢true (sym (no_list_object d proper (is_list-other d not_list not_nil)) ∙ ap object_is_list e ∙ list xs)
  where
    list : (ys : List Object) → object_is_list (list_of ys) ≡ true
    list [] = refl
    list (y ∷ ys) = refl

-- the first of the items, and the later ones
pub record IsFirstOf (y : Object) (ys : List Object) (a : Datum) (later : List Datum) : Type 0 where
  pub proper : is_proper a ≡ true
  pub is : object_of a ≡ y
  pub later_proper : list_all is_proper later ≡ true
  pub later_are : map object_of later ≡ ys

all_but_one : (n : ℕ) → suc n - 1 ≡ n
all_but_one n = omega arith

pub first_item : (items : List Datum) (a : Datum) (y : Object) (ys : List Object) → map object_of items ≡ y ∷ ys → list_all is_proper items ≡ true
    → a ≡ get_or items 0 a → IsFirstOf y ys a (take (length items - 1) (drop 1 items))
first_item [] a y ys e proper is_a = absurd cc
first_item (b ∷ later) a y ys e proper is_a =
    let both = and_parts (is_proper b) (list_all is_proper later) proper in
    let head : object_of b ≡ y = cc in
    let rest : map object_of later ≡ ys = cc in
    let found : IsFirstOf y ys a later = record {
      proper = ap is_proper is_a ∙ both.0;
      is = ap object_of is_a ∙ head;
      later_proper = both.1;
      later_are = rest;
    } in
    subst (IsFirstOf y ys a) (sym (ap (λ n. take n later) (all_but_one (length later)) ∙ take-length later)) found

-- an item at an index
pub item_at : (items : List Datum) (n : ℕ) (a : Datum) (ys : List Object) → map object_of items ≡ ys → list_all is_proper items ≡ true
    → n < length items → a ≡ get_or items n a → (is_proper a ≡ true) × (object_of a ≡ get_or ys n (object_of a))
item_at items n a ys e proper few is = (
  ap is_proper is ∙ passing_item is_proper items proper n a few,
  ap object_of is ∙ sym (get_or-map object_of items n a (object_of a) few) ∙ ap (λ zs. get_or zs n (object_of a)) e,
)

pub item_count : (items : List Datum) (ys : List Object) → map object_of items ≡ ys → length items ≡ length ys
item_count items ys e = sym (length-map items object_of) ∙ ap length e

-- a list of two, and of three
pub record AreTwo (x y : Object) (a b : Datum) : Type 0 where
  pub first_proper : is_proper a ≡ true
  pub first : object_of a ≡ x
  pub second_proper : is_proper b ≡ true
  pub second : object_of b ≡ y

pub two_items : (items : List Datum) (a b : Datum) (x y : Object) → map object_of items ≡ x ∷ y ∷ [] → list_all is_proper items ≡ true
    → a ≡ get_or items 0 a → b ≡ get_or items 1 b → AreTwo x y a b
two_items items a b x y e proper is_a is_b =
    let count : length items ≡ 2 = item_count items (x ∷ y ∷ []) e in
    let first = item_at items 0 a (x ∷ y ∷ []) e proper (omega arith) is_a in
    let second = item_at items 1 b (x ∷ y ∷ []) e proper (omega arith) is_b in
    record { first_proper = first.0; first = first.1; second_proper = second.0; second = second.1 }

pub record AreThree (x y z : Object) (a b c : Datum) : Type 0 where
  pub first_proper : is_proper a ≡ true
  pub first : object_of a ≡ x
  pub second_proper : is_proper b ≡ true
  pub second : object_of b ≡ y
  pub third_proper : is_proper c ≡ true
  pub third : object_of c ≡ z

pub three_items : (items : List Datum) (a b c : Datum) (x y z : Object) → map object_of items ≡ x ∷ y ∷ z ∷ [] → list_all is_proper items ≡ true
    → a ≡ get_or items 0 a → b ≡ get_or items 1 b → c ≡ get_or items 2 c → AreThree x y z a b c
three_items items a b c x y z e proper is_a is_b is_c =
    let count : length items ≡ 3 = item_count items (x ∷ y ∷ z ∷ []) e in
    let first = item_at items 0 a (x ∷ y ∷ z ∷ []) e proper (omega arith) is_a in
    let second = item_at items 1 b (x ∷ y ∷ z ∷ []) e proper (omega arith) is_b in
    let third = item_at items 2 c (x ∷ y ∷ z ∷ []) e proper (omega arith) is_c in
    record { first_proper = first.0; first = first.1; second_proper = second.0; second = second.1; third_proper = third.0; third = third.1 }
