-- What is registered, and what is covered.
use Rattle.std.proofs.Common.{◌≡◌, ℕ, Bool, true, false, ◌||◌, List, [], ◌∷◌, refl, ◌∙◌, sym, ap, inl, inr}
use Rattle.std.specs.List.{list_all}
use Rattle.std.specs.Cmp.Lexicographic.{same_text}
use Rattle.std.proofs.lemmas.Bool.{and_parts, and_from, or_cases, or_left, or_right}
use Rattle.readtable_core.specs.Names.{is_among, is_standard, is_dispatch_name, same_name}
use Rattle.readtable_core.specs.Tables.{standard}
use Rattle.readtable_core.specs.NamedFunctions.{functions_of}
use Rattle.readtable_core.proofs.Named.{standard_named}
use Rattle.user_macros.specs.Registry.{is_covered}

-- a weaker test of names
pub weaker : (p q : List ℕ → Bool) → ((name : List ℕ) → p name ≡ true → q name ≡ true) → (names : List (List ℕ))
    → list_all p names ≡ true → list_all q names ≡ true
weaker p q h [] e = refl
weaker p q h (name ∷ names) e = let both = and_parts (p name) (list_all p names) e in and_from _ _ (h name both.0) (weaker p q h names both.1)

-- where each name of a meaning is registered, so is each of its names
pub whole_registers : (names registered : List (List ℕ)) (name : List ℕ) → list_all (is_among registered) names ≡ true
    → is_among names name ≡ true → is_among registered name ≡ true
whole_registers [] registered name e f = absurd (cc)
whole_registers (x ∷ names) registered name e f =
    let both = and_parts (is_among registered x) (list_all (is_among registered) names) e in
    elim (or_cases (same_name x name) (is_among names name) f) [
      | inl same ↦ sym (ap (is_among registered) (same_text x name (sym same))) ∙ both.0
      | inr later ↦ whole_registers names registered name both.1 later
    ]

-- the standard readtable is covered, whatever is registered
pub standard_covered : (registered : List (List ℕ)) → list_all (is_covered registered) (functions_of standard) ≡ true
standard_covered registered =
    weaker (λ name. is_standard name || is_dispatch_name name) (is_covered registered)
    (λ name e. elim (or_cases (is_standard name) (is_dispatch_name name) e) [
      | inl own ↦ or_left _ _ own
      | inr dispatch ↦ or_right _ _ (or_left _ _ dispatch)
    ]) (functions_of standard) standard_named

-- a covered function that is neither standard nor STD-DISPATCH is registered
pub registered_by_cover : (registered : List (List ℕ)) (name : List ℕ) → is_covered registered name ≡ true → is_standard name ≡ false
    → is_dispatch_name name ≡ false → is_among registered name ≡ true
registered_by_cover registered name e own dispatch =
    sym (ap (λ b. b || (is_dispatch_name name || is_among registered name)) own ∙ ap (λ b. b || is_among registered name) dispatch) ∙ e
