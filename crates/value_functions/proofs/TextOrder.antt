-- STRING< from a place on.
--     less_over, less_greater, less_shorter      the second text ends there, its character is less, or the first text ends there
use Rattle.std.proofs.Common.{◌≡◌, ◌≤◌, ◌<◌, ◌+◌, ◌==◌, ℕ, nat_lt, cond, List, [], ◌∷◌, length, drop, slice_index_or, Option, Some, None, refl, ap, ◌∙◌, arith}
use Rattle.std.proofs.lemmas.Bool.Decides.{nat_tests}
use Rattle.std.proofs.lemmas.List.{drop_all, drop_more}
use Rattle.value_functions.specs.TextValues.{less_at}

none_left : (at : ℕ) (a : List ℕ) → less_at at a [] ≡ None
none_left at [] = refl
none_left at (c ∷ cs) = refl

pub less_over : (at i : ℕ) (a b : List ℕ) → length b ≤ i → less_at at (drop i a) (drop i b) ≡ None
less_over at i a b over = ap (less_at at (drop i a)) (drop_all i b over) ∙ none_left at (drop i a)

greater_first : (c d : ℕ) (o : Option ℕ) (at : ℕ) → d < c → cond (c == d) o (cond (nat_lt c d) (Some at) None) ≡ None
greater_first c d o at less = grind (arith, nat_tests, less)

pub less_greater : (at i : ℕ) (a b : List ℕ) → i < length a → i < length b → slice_index_or b i 0 < slice_index_or a i 0 → less_at at (drop i a) (drop i b) ≡ None
less_greater at i a b first second less =
    ap (λ xs. less_at at xs (drop i b)) (drop_more a i 0 first) ∙ ap (less_at at (slice_index_or a i 0 ∷ drop (i + 1) a)) (drop_more b i 0 second)
    ∙ greater_first (slice_index_or a i 0) (slice_index_or b i 0) (less_at (at + 1) (drop (i + 1) a) (drop (i + 1) b)) at less

pub less_shorter : (at i : ℕ) (a b : List ℕ) → length a ≤ i → i < length b → less_at at (drop i a) (drop i b) ≡ Some at
less_shorter at i a b over second =
    ap (λ xs. less_at at xs (drop i b)) (drop_all i a over) ∙ ap (less_at at []) (drop_more b i 0 second)
