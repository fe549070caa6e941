-- What holds of a form as one transaction, where functions of the world are known.
--     either_given, either_refused      it gives what it gives in one of the two languages
--     accepted_silent      one that does not write leaves the state as it was
--     accepted_covers      it leaves no readtables which name other functions than those that may be named
--     accepted_numbered      it is refused under a number of evaluation
use Rattle.std.proofs.Common.{◌≡◌, ◌≤◌, ◌⊎◌, inl, inr, ℕ, Bool, true, false, if◌then◌else◌, List, Ok, Err, Result, ap, subst, arith}
use Rattle.lisp_object.specs.Object.{Object}
use Rattle.package_table.specs.declared.error.PackageError.{PackageError}
use Rattle.package_table.specs.Symbols.{symbols}
use Rattle.package_table.specs.Table.{Name, Table}
use Rattle.package_table.specs.ErrorNumbers.{package_error_number}
use Rattle.package_table.specs.Changes.{intern_changes}
use Rattle.plist_state.specs.Properties.{Symbol}
use Rattle.plist_state.specs.State.{WorldState}
use Rattle.plist_state.specs.Changes.{with_packages}
use Rattle.lisp_operators.specs.Evaluation.{Evaluation, Done, also}
use Rattle.lisp_operators.specs.Readtables.{AreCovered}
use Rattle.lisp_operators.proofs.Silence.{Keeps, keeps_also}
use Rattle.lisp_operators.proofs.Unmoved.{IsUnmoved, one_unmoved}
use Rattle.lisp_operators.proofs.Keeping as keeping
use Rattle.lisp_operators.proofs.Covering.{Covers, covering}
use Rattle.lisp_operators.proofs.Numbered.{IsPackagesNumbered}
use Rattle.lisp_operators.proofs.NumberedOperators.{one_numbered}
use Rattle.evaluator.specs.FormsGivenBack.{asks_for_functions}
use Rattle.form_eval.specs.Acceptance.{after_symbol_interned, with_symbols_interned, accept}
use Rattle.form_eval.proofs.Accepted as without_functions
use Rattle.form_eval.proofs.Accepted.{symbol_still, symbol_numbered}
use Rattle.lexical_evaluation.specs.Calls.{lexical_value, or_with_functions}
use Rattle.lexical_evaluation.proofs.LastingLaws.{lexical_silent, lexical_covers, lexical_numbered}
use Rattle.lexical_forms.specs.WithFunctions.{accepted_lexically, accept_lexically, accept_with_functions}

-- ---- one of the two languages
pub either_given : (o other : Evaluation Object) (d : Done Object) → or_with_functions o other ≡ Ok d → (o ≡ Ok d) ⊎ (other ≡ Ok d)
either_given (Ok e) other d is = inl is
either_given (Err code) other d is = by_test (asks_for_functions code) is
  where
    by_test : (b : Bool) → ◌≡◌ {A = Evaluation Object} (if b then other else Err code) (Ok d) → (◌≡◌ {A = Evaluation Object} (Err code) (Ok d)) ⊎ (other ≡ Ok d)
    by_test true same = inr same
    by_test false same = inl same

pub either_refused : (o other : Evaluation Object) (number : ℕ) → or_with_functions o other ≡ Err number → (o ≡ Err number) ⊎ (other ≡ Err number)
either_refused (Ok e) other number is = absurd (let no : ◌≡◌ {A = Evaluation Object} (Ok e) (Err number) = is in cc)
either_refused (Err code) other number is = by_test (asks_for_functions code) is
  where
    by_test : (b : Bool) → ◌≡◌ {A = Evaluation Object} (if b then other else Err code) (Err number) → (◌≡◌ {A = Evaluation Object} (Err code) (Err number)) ⊎ (other ≡ Err number)
    by_test true same = inr same
    by_test false same = inl same

module _ (names : List Name) where
  -- ---- one that does not write
  still_after_symbols : (s : WorldState) (r : Result (Table × Bool) PackageError) (x : Object) → IsUnmoved s.packages false r → Keeps s (accepted_lexically names s r x)
  still_after_symbols s (Ok p) x still =
      keeps_also s p.1 (with_packages s p.0) (lexical_value names (with_packages s p.0) x) (λ none. ap (with_packages s) (still none).1) (lexical_silent names (with_packages s p.0) x)
  still_after_symbols s (Err e) x still = record { same = tt }

  lexically_silent : (s : WorldState) (x : Object) (d : Done Object) → accept_lexically names s x ≡ Ok d → d.wrote ≡ false → d.state ≡ s
  lexically_silent s x d is none =
      shown (accept_lexically names s x)
      (still_after_symbols s (with_symbols_interned s.packages (symbols x)) x
      (one_unmoved after_symbol_interned (λ u (y : Symbol). intern_changes u y.0 y.1) symbol_still s.packages false (symbols x))) is
    where
      shown : (o : Evaluation Object) → Keeps s o → o ≡ Ok d → d.state ≡ s
      shown o keeps same = (subst (Keeps s) same keeps).same none

  pub accepted_silent : (s : WorldState) (x : Object) (d : Done Object) → accept_with_functions names s x ≡ Ok d → d.wrote ≡ false → d.state ≡ s
  accepted_silent s x d is none =
      elim (either_given (accept names s x) (accept_lexically names s x) d is) [
        | inl first ↦ without_functions.accepted_silent names s x d first none
        | inr again ↦ lexically_silent s x d again none
      ]

  -- ---- readtables
  covered_after_symbols : (s : WorldState) (r : Result (Table × Bool) PackageError) (x : Object) → keeping.Keeps (Covers names) s (accepted_lexically names s r x)
  covered_after_symbols s (Ok p) x =
      keeping.keeps_also (Covers names) (covering names).both s p.1 (with_packages s p.0) (lexical_value names (with_packages s p.0) x) (λ all. all) (lexical_covers names (with_packages s p.0) x)
  covered_after_symbols s (Err e) x = record { kept = tt }

  lexically_covers : (s : WorldState) (x : Object) (d : Done Object) → accept_lexically names s x ≡ Ok d → AreCovered names s.readtables → AreCovered names d.state.readtables
  lexically_covers s x d is = shown (accept_lexically names s x) (covered_after_symbols s (with_symbols_interned s.packages (symbols x)) x) is
    where
      shown : (o : Evaluation Object) → keeping.Keeps (Covers names) s o → o ≡ Ok d → AreCovered names s.readtables → AreCovered names d.state.readtables
      shown o keeps same = (subst (keeping.Keeps (Covers names) s) same keeps).kept

  pub accepted_covers : (s : WorldState) (x : Object) (d : Done Object) → accept_with_functions names s x ≡ Ok d → AreCovered names s.readtables → AreCovered names d.state.readtables
  accepted_covers s x d is =
      elim (either_given (accept names s x) (accept_lexically names s x) d is) [
        | inl first ↦ without_functions.accepted_covers names s x d first
        | inr again ↦ lexically_covers s x d again
      ]

  -- ---- numbers
  numbered_after_symbols : (s : WorldState) (r : Result (Table × Bool) PackageError) (x : Object) (number : ℕ) → IsPackagesNumbered r → accepted_lexically names s r x ≡ Err number → (30 ≤ number) × (number ≤ 49)
  numbered_after_symbols s (Ok p) x number is refused = of_value (lexical_value names (with_packages s p.0) x) (lexical_numbered names (with_packages s p.0) x number) refused
    where
      of_value : (o : Evaluation Object) → (o ≡ Err number → (30 ≤ number) × (number ≤ 49)) → also p.1 o ≡ Err number → (30 ≤ number) × (number ≤ 49)
      of_value (Ok d) each same = absurd (cc)
      of_value (Err code) each same = each same
  numbered_after_symbols s (Err e) x number is refused =
      let same : package_error_number e ≡ number = (let both : ◌≡◌ {A = Evaluation Object} (Err (package_error_number e)) (Err number) = refused in cc) in
      let lowest : 30 ≤ package_error_number e = is.0 in
      let highest : package_error_number e ≤ 47 = is.1 in
      (omega arith, omega arith)

  lexically_numbered : (s : WorldState) (x : Object) (number : ℕ) → accept_lexically names s x ≡ Err number → (30 ≤ number) × (number ≤ 49)
  lexically_numbered s x number =
      numbered_after_symbols s (with_symbols_interned s.packages (symbols x)) x number
      (one_numbered after_symbol_interned (λ u (y : Symbol). intern_changes u y.0 y.1) symbol_numbered s.packages false (symbols x))

  pub accepted_numbered : (s : WorldState) (x : Object) (number : ℕ) → accept_with_functions names s x ≡ Err number → (30 ≤ number) × (number ≤ 49)
  accepted_numbered s x number is =
      elim (either_refused (accept names s x) (accept_lexically names s x) number is) [
        | inl first ↦ let both = without_functions.accepted_numbered names s x number first in (both.0, most both.1)
        | inr again ↦ lexically_numbered s x number again
      ]
    where
      most : number ≤ 47 → number ≤ 49
      most below = omega arith
