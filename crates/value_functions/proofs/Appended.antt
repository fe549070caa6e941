-- APPEND of data, from one place on.
--     append_next, append_stops      where the item at this place is a list, and where it is none
use Rattle.std.proofs.Common.{◌≡◌, ◌<◌, ◌+◌, ℕ, zero, suc, true, false, cond, List, [], ◌∷◌, ◌++◌, length, drop, slice_index_or, Option, option_map, Some, None, Ok, Err, refl, sym, ap, ◌∙◌, arith}
use Rattle.package_table.proofs.Names.{same_some, none_some}
use Rattle.lisp_object.specs.Object.{Object, symbol, pair, is_nil, pairs, list_of, is_proper_list}
use Rattle.lisp_object.specs.declared.refusal.TheConstants.{ARGUMENT_KIND}
use Rattle.lisp_object.specs.declared.datum.Datum.{Datum}
use Rattle.lisp_object.specs.Datum.{object_of}
use Rattle.lisp_object.proofs.ProperLists.{nil_symbol}
use Rattle.lisp_operators.specs.EvaluationAnswers.{objects}
use Rattle.value_functions.specs.FunctionAnswers.{then_value}
use Rattle.value_functions.specs.Sequences.{items_of}
use Rattle.value_functions.specs.Building.{appended_lists}
use Rattle.value_functions.proofs.Joins.{joined_more, not_joined}

pair_list : (a b : Object) (xs : List Object) (o : Option (List Object)) → ((ys : List Object) → o ≡ Some ys → b ≡ list_of ys) → option_map (λ ys. a ∷ ys) o ≡ Some xs → pair a b ≡ list_of xs
pair_list a b xs (Some ys) rest is = ap (pair a) (rest ys refl) ∙ ap list_of (same_some (a ∷ ys) xs is)
pair_list a b xs None rest is = absurd (none_some xs is)

list_of_items : (x : Object) (xs : List Object) → items_of x ≡ Some xs → x ≡ list_of xs
list_of_items (pair a b) xs is = pair_list a b xs (items_of b) (λ ys. list_of_items b ys) is
list_of_items (symbol h n) xs is = elim (is_nil h n) as (λ t. is_nil h n ≡ t → cond t (Some []) None ≡ Some xs → symbol h n ≡ list_of xs) [
  | true ↦ λ nil some. nil_symbol h n nil ∙ ap list_of (same_some [] xs some)
  | false ↦ λ _ none. absurd (none_some xs none)
] refl is
list_of_items _ xs is = absurd (none_some xs is)

pair_none : (a : Object) (o : Option (List Object)) → option_map (λ ys. a ∷ ys) o ≡ None → o ≡ None
pair_none a None is = refl
pair_none a (Some ys) is = absurd (none_some (a ∷ ys) (sym is))

not_proper : (x : Object) → items_of x ≡ None → is_proper_list x ≡ false
not_proper (pair a b) is = not_proper b (pair_none a (items_of b) is)
not_proper (symbol h n) is = elim (is_nil h n) as (λ t. cond {A = Option (List Object)} t (Some []) None ≡ None → t ≡ false) [
  | true ↦ λ some. absurd (none_some [] (sym some))
  | false ↦ λ _. refl
] is
not_proper _ is = refl

pub append_next : (ds : List Datum) (at : ℕ) (d : Datum) (front xs : List Object) → at + 1 < length ds → items_of (object_of (slice_index_or ds at d)) ≡ Some xs
    → then_value (appended_lists (objects (drop at ds))) (λ end. Ok (pairs front end)) ≡ then_value (appended_lists (objects (drop (suc at) ds))) (λ end. Ok (pairs (front ++ xs) end))
append_next [] at d front xs e is = absurd (omega (arith, e))
append_next (x ∷ []) at d front xs e is = absurd (omega (arith, e))
append_next (x ∷ y ∷ ys) zero d front xs e is = joined_more front xs (object_of x) (object_of y) (objects ys) (list_of_items (object_of x) xs is)
append_next (x ∷ y ∷ ys) (suc at) d front xs e is = append_next (y ∷ ys) at d front xs (omega (arith, e)) is

pub append_stops : (ds : List Datum) (at : ℕ) (d : Datum) (front : List Object) → at + 1 < length ds → items_of (object_of (slice_index_or ds at d)) ≡ None
    → then_value (appended_lists (objects (drop at ds))) (λ end. Ok (pairs front end)) ≡ Err ARGUMENT_KIND
append_stops [] at d front e is = absurd (omega (arith, e))
append_stops (x ∷ []) at d front e is = absurd (omega (arith, e))
append_stops (x ∷ y ∷ ys) zero d front e is = not_joined front (object_of x) (object_of y) (objects ys) (not_proper (object_of x) is)
append_stops (x ∷ y ∷ ys) (suc at) d front e is = append_stops (y ∷ ys) at d front (omega (arith, e)) is
