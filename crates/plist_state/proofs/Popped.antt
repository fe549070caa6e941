-- The first item taken off a list, and items put back.
--     counted_list      how many elements a list has
--     ended      what ends a list that has one
--     with_items_list, joined_proper      a list with items before its own
--     popped_named      the change by numbers is that by symbols
--     first_there, none_popped, with_popped_there, popped_put      whether there is a first item
--     rest_value      what follows the first item of a value that may be stored may be stored
use Rattle.std.proofs.Common.{◌≡◌, ℕ, suc, ◌+◌, ◌≤◌, max, Bool, true, false, cond, Option, None, Some, Result, Ok, Err, All, List, [], ◌∷◌, ◌++◌, length, map, unwrap_or, refl, sym, ap, subst, ◌∙◌, arith}
use Rattle.std.specs.Prelude.{nat_le, OnOk}
use Rattle.std.proofs.lemmas.Bool.{and_from}
use Rattle.std.proofs.lemmas.List.Elements.{All-head, All-tail}
use Rattle.std.specs.List.{list_all}
use Rattle.std.specs.Option.{option_map}
use Rattle.std.specs.Global.{Vec}
use Rattle.std.specs.Vec.{vec_capacity}
use Rattle.lisp_object.specs.declared.datum.Datum
use Rattle.lisp_object.specs.declared.datum.Datum.{Datum}
use Rattle.lisp_object.specs.Object.{Object, pair, pairs, nil, object_is_list, object_depth, depth_along}
use Rattle.lisp_object.specs.Datum.{object_of, is_proper, is_list}
use Rattle.lisp_object.proofs.Objects.{object_of-List, object_of-dotted}
use Rattle.lisp_object.proofs.ProperLists.{items_of_proper, end_of_proper, no_list_object}
use Rattle.lisp_object.proofs.Lists.{object_of-joined, is_proper-joined}
use Rattle.package_table.specs.Table as packages
use Rattle.package_table.specs.Numbers.{Numbered, number_of}
use Rattle.package_table.specs.Numbering.{AreSymbolsNumbered}
use Rattle.plist_state.specs.Properties.{Symbol, same_symbol, value_beside, with_value}
use Rattle.plist_state.specs.State.{WorldState, Worlds}
use Rattle.plist_state.specs.Changes.{property, with_property}
use Rattle.plist_state.specs.Lists.{NumberedPlist, same_number, IsNumber, named_plist}
use Rattle.plist_state.specs.PushedLists.{holds_pair}
use Rattle.plist_state.specs.PoppedLists.{first_item, with_rest, popped_list, with_popped, with_popped_by}
use Rattle.plist_state.specs.Sound.{IsValue}
use Rattle.plist_state.specs.Undoing.{without_first, element_count, with_items}
use Rattle.plist_state.proofs.Named.{value_named, with_named}

-- ---- how many elements a list has
no_elements : (x : Object) → object_is_list x ≡ false → element_count x ≡ 0
no_elements (pair a b) other = absurd (cc)
no_elements (Object.symbol home name) other = refl
no_elements (Object.integer n) other = refl
no_elements (Object.rational n d) other = refl
no_elements (Object.character c) other = refl
no_elements (Object.text bytes) other = refl
no_elements (Object.uninterned name) other = refl
no_elements (Object.vector xs) other = refl

counted_pairs : (xs : List Datum) (end : Object) → element_count end ≡ 0 → element_count (pairs (map object_of xs) end) ≡ length xs
counted_pairs [] end none = none
counted_pairs (x ∷ xs) end none = ap suc (counted_pairs xs end none)

pub counted_list : (items : List Datum) (tail : Option Datum) → is_proper (Datum.List items tail) ≡ true
    → element_count (object_of (Datum.List items tail)) ≡ length items
counted_list items None proper = ap element_count (object_of-List items) ∙ counted_pairs items nil refl
counted_list items (Some end) proper =
    let parts : (is_proper end ≡ true) × (is_list end ≡ false) = end_of_proper items end proper in
    ap element_count (object_of-dotted items end) ∙ counted_pairs items (object_of end) (no_elements (object_of end) (no_list_object end parts.0 parts.1))

-- a list that has an item is that item before the others
split_list : (x : Datum) (xs : List Datum) (tail : Option Datum)
    → object_of (Datum.List (x ∷ xs) tail) ≡ pair (object_of x) (object_of (Datum.List xs tail))
split_list x xs None = object_of-List (x ∷ xs) ∙ ap (pair (object_of x)) (sym (object_of-List xs))
split_list x xs (Some end) = object_of-dotted (x ∷ xs) end ∙ ap (pair (object_of x)) (sym (object_of-dotted xs end))

-- a list that has one ends
pub ended : (items : List Datum) (tail : Option Datum) → is_proper (Datum.List items tail) ≡ true → element_count (object_of (Datum.List items tail)) ≡ 1
    → without_first (object_of (Datum.List items tail)) ≡ unwrap_or (option_map object_of tail) nil
ended [] tail proper one = absurd (omega (arith, (items_of_proper [] tail proper).0))
ended (x ∷ []) None proper one = ap without_first (object_of-List (x ∷ []))
ended (x ∷ []) (Some end) proper one = ap without_first (object_of-dotted (x ∷ []) end)
ended (x ∷ y ∷ ys) tail proper one = (let many : element_count (object_of (Datum.List (x ∷ y ∷ ys) tail)) ≡ length (x ∷ y ∷ ys) = counted_list (x ∷ y ∷ ys) tail proper in absurd (omega (arith, one, many)))

all_of : (xs : List Datum) → All (λ d. is_proper d ≡ true) xs → list_all is_proper xs ≡ true
all_of [] all = refl
all_of (x ∷ xs) all = and_from (is_proper x) (list_all is_proper xs) (All-head (λ d. is_proper d ≡ true) x xs all) (all_of xs (All-tail (λ d. is_proper d ≡ true) x xs all))

-- ---- items before a list
with_items_pair : (items : Vec Datum) (o x xs : Object) → o ≡ pair x xs
    → with_items items o ≡ cond (nat_le (length items.items + element_count o) (vec_capacity items)) (pairs (map object_of items.items) o) o
with_items_pair items o x xs is =
    subst (λ (p : Object). with_items items p ≡ cond (nat_le (length items.items + element_count p) (vec_capacity items)) (pairs (map object_of items.items) p) p) (sym is) refl

pub with_items_list : (items : Vec Datum) (others : List Datum) (tail : Option Datum) → is_proper (Datum.List others tail) ≡ true
    → with_items items (object_of (Datum.List others tail))
    ≡ object_of (Datum.List (cond (nat_le (length items.items + length others) (vec_capacity items)) (items.items ++ others) others) tail)
with_items_list items [] tail proper = absurd (omega (arith, (items_of_proper [] tail proper).0))
with_items_list items (y ∷ ys) tail proper =
    with_items_pair items (object_of (Datum.List (y ∷ ys) tail)) (object_of y) (object_of (Datum.List ys tail)) (split_list y ys tail)
    ∙ (λ i. cond (nat_le (length items.items + counted_list (y ∷ ys) tail proper i) (vec_capacity items)) (sym (object_of-joined items.items (y ∷ ys) tail) i) (object_of (Datum.List (y ∷ ys) tail)))
    ∙ chosen (nat_le (length items.items + length (y ∷ ys)) (vec_capacity items))
  where
    chosen : (b : Bool) → cond b (object_of (Datum.List (items.items ++ (y ∷ ys)) tail)) (object_of (Datum.List (y ∷ ys) tail))
        ≡ object_of (Datum.List (cond b (items.items ++ (y ∷ ys)) (y ∷ ys)) tail)
    chosen true = refl
    chosen false = refl

pub joined_proper : (items others : List Datum) (tail : Option Datum) (b : Bool) → All (λ d. is_proper d ≡ true) items
    → is_proper (Datum.List others tail) ≡ true → is_proper (Datum.List (cond b (items ++ others) others) tail) ≡ true
joined_proper items others tail false all proper = proper
joined_proper [] others tail true all proper = proper
joined_proper (x ∷ xs) others tail true all proper = is_proper-joined (x ∷ xs) others tail (omega arith) (all_of (x ∷ xs) all) proper

-- ---- by numbers and by symbols
pub popped_named : (s : Numbered) (count : ℕ) (counted : AreSymbolsNumbered s count) (x : Symbol) (i : ℕ) (is : number_of s x.0 x.1 ≡ Some i)
    (ps : NumberedPlist) (all : All (λ p. IsNumber s p.0) ps)
    → named_plist s (with_popped_by same_number ps i) ≡ with_popped_by same_symbol (named_plist s ps) x
popped_named s count counted x i is ps all =
    with_named s count counted x i is ps all (popped_list (value_beside same_number ps i))
    ∙ ap (λ o. with_value (named_plist s ps) x (popped_list o)) (sym (value_named s count counted x i is ps all))

-- ---- whether there is a first item
pub first_there : (o : Option Object) (x : Object) → first_item o ≡ Some x → holds_pair o ≡ true
first_there (Some (pair a b)) x is = refl
first_there (Some (Object.symbol home name)) x is = absurd (cc)
first_there (Some (Object.integer n)) x is = absurd (cc)
first_there (Some (Object.rational n d)) x is = absurd (cc)
first_there (Some (Object.character c)) x is = absurd (cc)
first_there (Some (Object.text bytes)) x is = absurd (cc)
first_there (Some (Object.uninterned name)) x is = absurd (cc)
first_there (Some (Object.vector xs)) x is = absurd (cc)
first_there None x is = absurd (cc)

pub none_popped : (s : WorldState) (x i : Symbol) (o : Option Object) → first_item o ≡ None → with_rest s x i o ≡ s
none_popped s x i (Some (pair a b)) is = absurd (cc)
none_popped s x i (Some (Object.symbol home name)) is = refl
none_popped s x i (Some (Object.integer n)) is = refl
none_popped s x i (Some (Object.rational n d)) is = refl
none_popped s x i (Some (Object.character c)) is = refl
none_popped s x i (Some (Object.text bytes)) is = refl
none_popped s x i (Some (Object.uninterned name)) is = refl
none_popped s x i (Some (Object.vector xs)) is = refl
none_popped s x i None is = refl

pub with_popped_there : (s : WorldState) (x i : Symbol) (o : Option Object) → holds_pair o ≡ true → with_rest s x i o ≡ with_property s x i (popped_list o)
with_popped_there s x i (Some (pair a b)) is = refl
with_popped_there s x i (Some (Object.symbol home name)) is = absurd (cc)
with_popped_there s x i (Some (Object.integer n)) is = absurd (cc)
with_popped_there s x i (Some (Object.rational n d)) is = absurd (cc)
with_popped_there s x i (Some (Object.character c)) is = absurd (cc)
with_popped_there s x i (Some (Object.text bytes)) is = absurd (cc)
with_popped_there s x i (Some (Object.uninterned name)) is = absurd (cc)
with_popped_there s x i (Some (Object.vector xs)) is = absurd (cc)
with_popped_there s x i None is = absurd (cc)

-- what a call leaves that puts the rest there
pub popped_put : {A E : Type 0} (r : Result A E) (s : WorldState) (ss : List WorldState) (w : Worlds) (x i : Symbol) → holds_pair (property s x i) ≡ true
    → OnOk r (◌≡◌ {A = Worlds} w (with_property s x i (popped_list (property s x i)), ss)) → OnOk r (◌≡◌ {A = Worlds} w (with_popped s x i, ss))
popped_put (Ok a) s ss w x i there is = is ∙ ap (λ (t : WorldState). (t, ss)) (sym (with_popped_there s x i (property s x i) there))
popped_put (Err e) s ss w x i there is = tt

-- ---- what may be stored
rest_depth : (b : Object) → object_depth b ≤ depth_along b + 1
rest_depth (pair a b) = omega arith
rest_depth (Object.symbol home name) = omega arith
rest_depth (Object.integer n) = omega arith
rest_depth (Object.rational n d) = omega arith
rest_depth (Object.character c) = omega arith
rest_depth (Object.text bytes) = omega arith
rest_depth (Object.uninterned name) = omega arith
rest_depth (Object.vector xs) = omega arith

pub rest_value : (t : packages.Table) (o : Option Object) → ((x : Object) → o ≡ Some x → IsValue t x) → holds_pair o ≡ true → IsValue t (popped_list o)
rest_value t (Some (pair a b)) each there =
    let value : IsValue t (pair a b) = each (pair a b) refl in
    let below : object_depth b ≤ depth_along b + 1 = rest_depth b in
    let whole : max (object_depth a) (depth_along b) + 1 ≤ 100 = value.depth in
    record {
      object = value.object.1;
      depth = omega (arith, below, whole);
      symbols = value.symbols.1;
    }
rest_value t (Some (Object.symbol home name)) each there = absurd (cc)
rest_value t (Some (Object.integer n)) each there = absurd (cc)
rest_value t (Some (Object.rational n d)) each there = absurd (cc)
rest_value t (Some (Object.character c)) each there = absurd (cc)
rest_value t (Some (Object.text bytes)) each there = absurd (cc)
rest_value t (Some (Object.uninterned name)) each there = absurd (cc)
rest_value t (Some (Object.vector xs)) each there = absurd (cc)
rest_value t None each there = absurd (cc)
