-- Places, and lists by their items.
--     standard_by_parts      a symbol of COMMON-LISP
--     count_pairs      the number of the elements of a list
--     proper_pair, some_items, first_proper      a list that ends in NIL, and its items
--     dotted_place      a list that ends in another object is no place
use Rattle.std.proofs.Common.{◌≡◌, ℕ, true, false, ◌&&◌, cond, List, [], ◌∷◌, is_some, get_or, subst, codes, suc, Option, Some, None, bytes_eq, map, length, refl, sym, ap, ◌∙◌, ◌<◌, ◌-◌, arith}
use Rattle.std.specs.Option.{option_map_or}
use Rattle.lisp_object.specs.declared.datum.Datum
use Rattle.lisp_object.specs.declared.datum.Datum.{Datum}
use Rattle.lisp_object.specs.Object.{Object, integer, rational, character, text, symbol, uninterned, pair, vector, nil, pairs, is_proper_list}
use Rattle.lisp_object.specs.Datum.{object_of, is_proper}
use Rattle.lisp_object.proofs.Objects.{object_of-List}
use Rattle.std.specs.List.{list_all}
use Rattle.std.proofs.lemmas.Bool.{false≢true, and_parts}
use Rattle.std.proofs.Math.Bool.{and-false}
use Rattle.std.proofs.lemmas.List.{length-map}
use Rattle.lisp_object.specs.declared.refusal.TheConstants.{ARGUMENT_KIND}
use Rattle.evaluator.specs.Value.{get_place_refusal, default_place_refusal, case_place_refusal, list_place_refusal}
use Rattle.lisp_object.proofs.ProperLists.{items_of_proper, proper_pairs}
use Rattle.package_table.specs.Table.{common_lisp}
use Rattle.lisp_operators.specs.ArgumentKinds.{a_symbol}
use Rattle.evaluator.specs.Operators.{is_standard, count}
use Rattle.lisp_operators.proofs.Shapes.{dotted_pair}

pub standard_by_parts : (name : List ℕ) (x : Object) → is_standard name x ≡ option_map_or (λ p. bytes_eq p.0 common_lisp && bytes_eq p.1 name) (a_symbol x) false
standard_by_parts name (integer n) = refl
standard_by_parts name (rational n d) = refl
standard_by_parts name (character c) = refl
standard_by_parts name (text b) = refl
standard_by_parts name (symbol h n) = refl
standard_by_parts name (uninterned n) = refl
standard_by_parts name (pair a b) = refl
standard_by_parts name (vector xs) = refl

-- ---- lists as pairs
pub count_pairs : (xs : List Object) → count (pairs xs nil) ≡ length xs
count_pairs [] = refl
count_pairs (x ∷ xs) = let e : count (pairs xs nil) ≡ length xs = count_pairs xs in omega arith

-- a list that ends in NIL
pub proper_pair : (d : Datum) (items xs : List Datum) (tail : Option Datum) (x : Datum) → d ≡ Datum.List items tail → is_proper d ≡ true → is_some tail ≡ false → xs ≡ items → x ≡ get_or xs 0 x
    → (r : Object) × (object_of d ≡ pair (object_of x) r) × (is_proper_list r ≡ true) × (count r ≡ length xs - 1)
proper_pair d [] xs tail x is proper none same first = absurd (omega (arith, (items_of_proper [] tail (ap is_proper (sym is) ∙ proper)).0))
proper_pair d (y ∷ ys) xs (Some end) x is proper none same first = absurd (false≢true (sym none))
proper_pair d (y ∷ ys) xs None x is proper none same first =
    let head : x ≡ y = first ∙ ap (λ l. get_or l 0 x) same in (
      pairs (map object_of ys) nil,
      ap object_of is ∙ object_of-List (y ∷ ys) ∙ ap (λ z. pair (object_of z) (pairs (map object_of ys) nil)) (sym head),
      proper_pairs (map object_of ys),
      count_pairs (map object_of ys) ∙ length-map ys object_of ∙ less (length ys) (length xs) (ap length same),
    )
  where
    less : (m n : ℕ) → n ≡ suc m → m ≡ n - 1
    less m n e = omega arith

pub some_items : (d : Datum) (items xs : List Datum) (tail : Option Datum) → d ≡ Datum.List items tail → is_proper d ≡ true → xs ≡ items → 0 < length xs
some_items d items xs tail is proper same = subst (λ l. 0 < length l) (sym same) ((items_of_proper items tail (ap is_proper (sym is) ∙ proper)).0)

pub first_proper : (d : Datum) (items xs : List Datum) (tail : Option Datum) (x : Datum) → d ≡ Datum.List items tail → is_proper d ≡ true → xs ≡ items → x ≡ get_or xs 0 x → is_proper x ≡ true
first_proper d items [] tail x is proper same first = absurd (omega (arith, some_items d items [] tail is proper same))
first_proper d items (y ∷ ys) tail x is proper same first =
    let all : list_all is_proper (y ∷ ys) ≡ true = ap (list_all is_proper) same ∙ (items_of_proper items tail (ap is_proper (sym is) ∙ proper)).1 in
    ap is_proper first ∙ (and_parts (is_proper y) (list_all is_proper ys) all).0

-- no place of any kind
abbrev pub IsNoPlace : Object → Type 0
IsNoPlace x = (get_place_refusal x ≡ Some ARGUMENT_KIND) × (list_place_refusal x ≡ Some ARGUMENT_KIND) × (default_place_refusal x ≡ Some ARGUMENT_KIND)

improper_place : (a b : Object) → is_proper_list b ≡ false → IsNoPlace (pair a b)
improper_place a b e = (get_refused, elim (is_standard (codes "READTABLE-CASE") a) as (λ c. is_standard (codes "READTABLE-CASE") a ≡ c → cond c (case_place_refusal (pair a b)) (get_place_refusal (pair a b)) ≡ Some ARGUMENT_KIND) [ true ↦ λ _. case_refused | false ↦ λ _. get_refused ] refl, default_refused)
  where
    get_refused : get_place_refusal (pair a b) ≡ Some ARGUMENT_KIND
    get_refused = rw (e, and-false) refl

    default_refused : default_place_refusal (pair a b) ≡ Some ARGUMENT_KIND
    default_refused = rw (e, and-false) refl

    case_refused : case_place_refusal (pair a b) ≡ Some ARGUMENT_KIND
    case_refused = rw (e, and-false) refl

pub dotted_place : (d : Datum) (items : List Datum) (tail : Option Datum) → d ≡ Datum.List items tail → is_proper d ≡ true → is_some tail ≡ true
    → IsNoPlace (object_of d)
dotted_place d items tail is proper some =
    let shape = dotted_pair d items tail is proper some in
    subst IsNoPlace (sym shape.2) (improper_place shape.0 shape.1 shape.3)
