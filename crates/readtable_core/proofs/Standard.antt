-- The standard readtable at each character.
use Rattle.std.proofs.Common.{◌≡◌, ℕ, ◌+◌, ◌≤◌, List, [], ◌∷◌, ◌++◌, map, arith, ◌∙◌, sym, ap, zero-add, get_or, Option, None, inl, inr}
use Rattle.std.specs.List.{range_with_len}
use Rattle.std.proofs.lemmas.Grind.{common_steps}
use Rattle.std.proofs.lemmas.List.FromFn.{get_or-map-range_with_len, length-map-range_with_len, map-range_with_len_more}
use Rattle.std.proofs.lemmas.List.{get_or_past}
use Rattle.std.proofs.lemmas.Bool.{cases_lt}
use Rattle.readtable_core.specs.declared.table.Case.TheVariants.{Upcase}
use Rattle.readtable_core.specs.declared.characters.Syntax.TheVariants.{Invalid}
use Rattle.readtable_core.specs.Characters.{standard_syntax, upper_case}
use Rattle.readtable_core.specs.Tables.{CharacterEntry, standard, standard_entry, standard_function, standard_dispatch, standard_sub_function, entry_at, dispatch_at, no_entry}

-- one more element of a table that is made in order
pub range_grown : {X : Type 0} (f : ℕ → X) (xs : List X) (n : ℕ) (y : X)
    → xs ≡ map f (range_with_len 0 n) → y ≡ f n → xs ++ y ∷ [] ≡ map f (range_with_len 0 (n + 1))
range_grown f xs n y e v = rw (e, v) (sym (map-range_with_len_more f 0 n n (zero-add n)))

pub syntax_past : (c : ℕ) → 128 ≤ c → standard_syntax c ≡ Invalid
syntax_past c h = grind (arith, common_steps)

pub function_past : (c : ℕ) → 128 ≤ c → standard_function c ≡ None
function_past c h = grind (arith, common_steps)

pub dispatch_past : (c : ℕ) → 128 ≤ c → standard_dispatch c ≡ []
dispatch_past c h = grind (arith, common_steps)

pub entry_past : (c : ℕ) → 128 ≤ c → standard_entry c ≡ no_entry
entry_past c h = λ i. record { syntax = syntax_past c h i; function = function_past c h i; dispatch = dispatch_past c h i }

pub standard_of_rows : (rows : List CharacterEntry) (n : ℕ) → rows ≡ map standard_entry (range_with_len 0 n) → n ≡ 128
    → record { letters = Upcase; entries = rows } ≡ standard
unfolding standard
standard_of_rows rows n e same = rw (e, same)

pub standard_at : (c : ℕ) → entry_at standard c ≡ standard_entry c
unfolding standard
standard_at c =
    elim (cases_lt c 128) [
      | inl below ↦ get_or-map-range_with_len standard_entry 0 128 c c no_entry below (zero-add c)
      | inr past ↦ get_or_past (map standard_entry (range_with_len 0 128)) c no_entry (rw length-map-range_with_len past)
          ∙ sym (entry_past c past)
    ]

pub sub_past : (sub : ℕ) → 128 ≤ sub → standard_sub_function sub ≡ None
sub_past sub h = grind (arith, common_steps)

pub sub_at : (sub : ℕ) → get_or (map standard_sub_function (range_with_len 0 128)) sub None ≡ standard_sub_function sub
sub_at sub =
    elim (cases_lt sub 128) [
      | inl below ↦ get_or-map-range_with_len standard_sub_function 0 128 sub sub None below (zero-add sub)
      | inr past ↦ get_or_past (map standard_sub_function (range_with_len 0 128)) sub None (rw length-map-range_with_len past) ∙ sym (sub_past sub past)
    ]

-- for the layers above: the syntax type and the function of each character of the standard readtable
pub standard_syntax_at : (c : ℕ) → (entry_at standard c).syntax ≡ standard_syntax c
standard_syntax_at c = ap (λ (e : CharacterEntry). e.syntax) (standard_at c)

pub standard_function_at : (c : ℕ) → (entry_at standard c).function ≡ standard_function c
standard_function_at c = ap (λ (e : CharacterEntry). e.function) (standard_at c)

pub standard_dispatch_at : (c : ℕ) → (entry_at standard c).dispatch ≡ standard_dispatch c
standard_dispatch_at c = ap (λ (e : CharacterEntry). e.dispatch) (standard_at c)

-- the function at a sub-character of #, the only dispatching character of the standard readtable
pub standard_sub_function_at : (sub : ℕ) → dispatch_at standard 35 sub ≡ standard_sub_function (upper_case sub)
standard_sub_function_at sub =
    ap (λ (places : List (Option (List ℕ))). get_or places (upper_case sub) None) (standard_dispatch_at 35) ∙ sub_at (upper_case sub)
