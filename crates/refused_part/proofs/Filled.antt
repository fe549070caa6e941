-- A list of which one item was changed, and what is known of an item.
--     listed_again, proper_again      a list with another item, and that it is proper
--     item_proper, item_atoms         an item of a proper datum, and its atoms
--     first_step, rest_shorter, with_first      the way to a part begins with an item
use Rattle.std.proofs.Common.{◌≡◌, ℕ, ◌+◌, ◌-◌, ◌<◌, ◌≤◌, zero, suc, List, [], ◌∷◌, ◌++◌, length, map, take, drop, Option, Some, None, Bool, true, nat_lt, ◌&&◌, not, refl, ap, sym, subst, ◌∙◌, arith, add-one, slice_index_or, length-append}
use Rattle.std.specs.Prelude.{slice_get}
use Rattle.std.specs.List.{list_all}
use Rattle.std.proofs.lemmas.Bool.{and_parts, and_from, lt-ltb}
use Rattle.std.proofs.lemmas.List.{take_all}
use Rattle.std.proofs.lemmas.Option.{none-some, same_Some, slice_get_within}
use Rattle.lisp_object.specs.declared.datum.Datum
use Rattle.lisp_object.specs.declared.datum.Datum.{Datum, roll-Datum, out-Datum, roll-out-Datum, out-roll-Datum}
use Rattle.lisp_object.specs.declared.datum.Datum.TheOpen.{Datum-F}
use Rattle.lisp_object.specs.declared.datum.Datum.TheVariants.{rolls-List}
use Rattle.lisp_object.specs.Object.{Object, AllAtoms, nil, pair, pairs}
use Rattle.lisp_object.specs.Datum.{object_of, is_proper, is_list}
use Rattle.lisp_object.proofs.Objects.{object_of-List, object_of-dotted}
use Rattle.lisp_object.proofs.Properness.{is_proper-List, is_proper-dotted}
use Rattle.lisp_object.proofs.ProperLists.{proper_list_items}
use Rattle.refused_part.specs.PartPlaces.{HasPart, layer_items, items_inside, with_item, with_part}
use Rattle.refused_part.proofs.Items.{items_inside-List}

changed_pairs : (change : Object → Object) (items : List Datum) (i : ℕ) (x z : Datum) (end : Object) → slice_get items i ≡ Some x → object_of z ≡ change (object_of x)
    → pairs (map object_of (take i items ++ z ∷ drop (suc i) items)) end ≡ with_item i change (pairs (map object_of items) end)
changed_pairs change [] i x z end is changed = absurd (none-some x is)
changed_pairs change (a ∷ items) zero x z end is changed =
    ap (λ o. pair o (pairs (map object_of items) end)) (changed ∙ ap (λ d. change (object_of d)) (sym (same_Some a x is)))
changed_pairs change (a ∷ items) (suc i) x z end is changed = ap (pair (object_of a)) (changed_pairs change items i x z end is changed)

changed_list : (change : Object → Object) (items : List Datum) (tail : Option Datum) (i : ℕ) (x z : Datum) → slice_get items i ≡ Some x → object_of z ≡ change (object_of x)
    → object_of (Datum.List (take i items ++ z ∷ drop (suc i) items) tail) ≡ with_item i change (object_of (Datum.List items tail))
changed_list change items None i x z is changed =
    object_of-List (take i items ++ z ∷ drop (suc i) items) ∙ changed_pairs change items i x z nil is changed ∙ ap (with_item i change) (sym (object_of-List items))
changed_list change items (Some tail) i x z is changed =
    object_of-dotted (take i items ++ z ∷ drop (suc i) items) tail ∙ changed_pairs change items i x z (object_of tail) is changed
    ∙ ap (with_item i change) (sym (object_of-dotted items tail))

-- the copies that were made
copies_are : (items slice copies : List Datum) (i : ℕ) (z : Datum) → slice ≡ items → copies ≡ take i slice ++ z ∷ drop (i + 1) slice → copies ≡ take i items ++ z ∷ drop (suc i) items
copies_are items slice copies i z same copied = copied ∙ ap (λ s. take i s ++ z ∷ drop (i + 1) s) same ∙ ap (λ k. take i items ++ z ∷ drop k items) (add-one i)

pub listed_again : (whole : Datum) (items slice copies : List Datum) (tail end : Option Datum) (i : ℕ) (z : Datum)
    → whole ≡ Datum.List items tail → slice ≡ items → copies ≡ take i slice ++ z ∷ drop (i + 1) slice → end ≡ tail
    → (change : Object → Object) (x : Datum) → slice_get (items_inside whole) i ≡ Some x → object_of z ≡ change (object_of x)
    → object_of (Datum.List copies end) ≡ with_item i change (object_of whole)
listed_again whole items slice copies tail end i z is same copied ends change x there changed =
    (λ j. object_of (Datum.List (copies_are items slice copies i z same copied j) (ends j)))
    ∙ changed_list change items tail i x z (subst (λ l. slice_get l i ≡ Some x) (ap items_inside is ∙ items_inside-List items tail) there) changed
    ∙ ap (λ d. with_item i change (object_of d)) (sym is)

changed_all : (is : Datum → Bool) (items : List Datum) (i : ℕ) (z : Datum) → list_all is items ≡ true → is z ≡ true → list_all is (take i items ++ z ∷ drop (suc i) items) ≡ true
changed_all is [] zero z all one = and_from (is z) true one refl
changed_all is [] (suc i) z all one = and_from (is z) true one refl
changed_all is (a ∷ items) zero z all one = and_from (is z) (list_all is items) one (and_parts (is a) (list_all is items) all).1
changed_all is (a ∷ items) (suc i) z all one =
    let both = and_parts (is a) (list_all is items) all in
    and_from (is a) (list_all is (take i items ++ z ∷ drop (suc i) items)) both.0 (changed_all is items i z both.1 one)

some_left : (items : List Datum) (i : ℕ) (z : Datum) → nat_lt 0 (length (take i items ++ z ∷ drop (suc i) items)) ≡ true
some_left items i z = lt-ltb 0 (length (take i items ++ z ∷ drop (suc i) items)) (grind (arith, length-append))

changed_proper : (items : List Datum) (tail : Option Datum) (i : ℕ) (z : Datum) → is_proper (Datum.List items tail) ≡ true → is_proper z ≡ true
    → is_proper (Datum.List (take i items ++ z ∷ drop (suc i) items) tail) ≡ true
changed_proper items None i z proper one =
    let both = and_parts (nat_lt 0 (length items)) (list_all is_proper items) (sym (is_proper-List items) ∙ proper) in
    let copies = take i items ++ z ∷ drop (suc i) items in
    is_proper-List copies ∙ and_from (nat_lt 0 (length copies)) (list_all is_proper copies) (some_left items i z) (changed_all is_proper items i z both.1 one)
changed_proper items (Some tail) i z proper one =
    let all = and_parts (nat_lt 0 (length items) && list_all is_proper items) (is_proper tail && not (is_list tail)) (sym (is_proper-dotted items tail) ∙ proper) in
    let both = and_parts (nat_lt 0 (length items)) (list_all is_proper items) all.0 in
    let copies = take i items ++ z ∷ drop (suc i) items in
    is_proper-dotted copies tail
    ∙ and_from (nat_lt 0 (length copies) && list_all is_proper copies) (is_proper tail && not (is_list tail))
    (and_from (nat_lt 0 (length copies)) (list_all is_proper copies) (some_left items i z) (changed_all is_proper items i z both.1 one)) all.1

pub proper_again : (whole : Datum) (items slice copies : List Datum) (tail end : Option Datum) (i : ℕ) (z : Datum)
    → whole ≡ Datum.List items tail → slice ≡ items → copies ≡ take i slice ++ z ∷ drop (i + 1) slice → end ≡ tail
    → is_proper whole ≡ true → is_proper z ≡ true → is_proper (Datum.List copies end) ≡ true
proper_again whole items slice copies tail end i z is same copied ends proper one =
    (λ j. is_proper (Datum.List (copies_are items slice copies i z same copied j) (ends j)))
    ∙ changed_proper items tail i z (sym (ap is_proper is) ∙ proper) one

-- ---- an item of a datum
item_of_all : (is : Datum → Bool) (items : List Datum) (i : ℕ) (x : Datum) → list_all is items ≡ true → slice_get items i ≡ Some x → is x ≡ true
item_of_all is [] i x all there = absurd (none-some x there)
item_of_all is (a ∷ items) zero x all there = ap is (sym (same_Some a x there)) ∙ (and_parts (is a) (list_all is items) all).0
item_of_all is (a ∷ items) (suc i) x all there = item_of_all is items i x (and_parts (is a) (list_all is items) all).1 there

proper_layer : (layer : Datum-F Datum) (i : ℕ) (x : Datum) → is_proper (roll-Datum layer) ≡ true → slice_get (layer_items layer) i ≡ Some x → is_proper x ≡ true
proper_layer (Datum-F.List items tail) i x proper there =
    item_of_all is_proper items i x (proper_list_items (roll-Datum (Datum-F.List items tail)) items tail (rolls-List items tail) proper) there
proper_layer (Datum-F.Integer n) i x proper there = absurd (none-some x there)
proper_layer (Datum-F.Rational n) i x proper there = absurd (none-some x there)
proper_layer (Datum-F.Char n) i x proper there = absurd (none-some x there)
proper_layer (Datum-F.Text n) i x proper there = absurd (none-some x there)
proper_layer (Datum-F.Symbol n m) i x proper there = absurd (none-some x there)
proper_layer (Datum-F.Uninterned n) i x proper there = absurd (none-some x there)
proper_layer (Datum-F.Vector n) i x proper there = absurd (none-some x there)

pub item_proper : (whole : Datum) (i : ℕ) (x : Datum) → is_proper whole ≡ true → slice_get (items_inside whole) i ≡ Some x → is_proper x ≡ true
item_proper whole i x proper there = proper_layer (out-Datum whole) i x (ap is_proper (roll-out-Datum whole) ∙ proper) there

-- the first step of a way that is not empty
pub first_step : (place : List ℕ) (whole part : Datum) → 1 ≤ length place → HasPart place whole part
    → (item : Datum) × (slice_get (items_inside whole) (slice_index_or place 0 0) ≡ Some item) × HasPart (take (length place - 1) (drop 1 place)) item part
first_step [] whole part some has = absurd (omega (arith, some))
first_step (i ∷ place) whole part some has =
    (has.0, has.1, subst (λ way. HasPart way has.0 part) (sym (take_all (suc (length place) - 1) place (omega arith))) has.2)

-- the rest of such a way is shorter
pub rest_shorter : (place : List ℕ) → 1 ≤ length place → length (take (length place - 1) (drop 1 place)) < length place
rest_shorter [] some = absurd (omega (arith, some))
rest_shorter (i ∷ place) some = omega (arith, ap length (take_all (suc (length place) - 1) place (omega arith)))

pub with_first : (place : List ℕ) → 1 ≤ length place → (other x : Object)
    → with_part place other x ≡ with_item (slice_index_or place 0 0) (with_part (take (length place - 1) (drop 1 place)) other) x
with_first [] some other x = absurd (omega (arith, some))
with_first (i ∷ place) some other x = ap (λ way. with_item i (with_part way other) x) (sym (take_all (suc (length place) - 1) place (omega arith)))
