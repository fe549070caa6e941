-- What holds of a form as one transaction.
--     symbol_still, symbol_numbered      a symbol is interned
--     accepted_silent      one that does not write leaves the state as it was
--     accepted_covers      it leaves no readtables which name other functions than those that may be named
--     accepted_without_base      one that is accepted where *READ-BASE* is no variable is accepted where it is one
--     accepted_with_values, accepted_with_more, accepted_as_before      one that is accepted with some operators is accepted with more
--     accepted_numbered      it is refused under a number of evaluation
--     accepted_as_asked      it gives what it gives as a question
use Rattle.std.proofs.Common.{◌≡◌, ◌≤◌, ℕ, Bool, true, false, List, Ok, Err, Result, ap, refl, subst, sym, ◌∙◌}
use Rattle.lisp_object.specs.Object.{Object}
use Rattle.package_table.specs.declared.error.PackageError.{PackageError}
use Rattle.package_table.specs.Table.{Name, Table}
use Rattle.package_table.specs.ErrorNumbers.{package_error_number}
use Rattle.package_table.specs.Changes.{after_intern, intern_changes}
use Rattle.plist_state.specs.Properties.{Symbol}
use Rattle.plist_state.specs.State.{WorldState}
use Rattle.plist_state.specs.Changes.{with_packages}
use Rattle.lisp_operators.specs.Evaluation.{Evaluation, Done, also}
use Rattle.lisp_operators.specs.Readtables.{AreCovered}
use Rattle.lisp_operators.proofs.Silence.{Keeps, keeps_also}
use Rattle.lisp_operators.proofs.Unmoved.{IsUnmoved, one_unmoved, intern_still, same_ok}
use Rattle.lisp_operators.proofs.Keeping as keeping
use Rattle.lisp_operators.proofs.Covering.{Covers, covering}
use Rattle.lisp_operators.proofs.Numbered.{Numbered, IsPackagesNumbered, numbered_also, numbered_intern}
use Rattle.lisp_operators.proofs.NumberedOperators.{one_numbered}
use Rattle.evaluator.specs.Operators.{IsOperatorTableWithin, OperatorTable, operator_of, standard_operator_of}
use Rattle.evaluator.specs.Value.{value, value_by, value_over}
use Rattle.evaluator.proofs.SilentForms.{value_silent}
use Rattle.evaluator.proofs.KeepingForms.{value_keeps}
use Rattle.evaluator.proofs.Widening.{standard_among, wider_operators}
use Rattle.evaluator.proofs.WithoutBase.{value_without_base}
use Rattle.evaluator.proofs.NumberedForms.{value_numbered}
use Rattle.package_table.specs.Symbols.{symbols}
use Rattle.form_eval.specs.Acceptance.{packages_of_interning, after_symbol_interned, with_symbols_interned, accepted_over, accept_over, accepted_by, accept_by, accept, question_after_interning, question_value}

-- ---- one that does not write
pub symbol_still : (t : Table) (x : Symbol) (u : Table) → after_symbol_interned t x ≡ Ok u → intern_changes t x.0 x.1 ≡ false → u ≡ t
symbol_still t x u is none =
    elim (after_intern t x.0 x.1) as (λ r. after_intern t x.0 x.1 ≡ r → packages_of_interning r ≡ Ok u → u ≡ t) [
      | Ok q ↦ λ made same. sym (same_ok q.1 u same) ∙ intern_still t x.0 x.1 q.0 q.1 made none
      | Err e ↦ λ _ no. absurd (let other : Err e ≡ Ok u = no in cc)
    ] refl is

still_after_symbols : (names : List Name) (s : WorldState) (r : Result (Table × Bool) PackageError) (x : Object) → IsUnmoved s.packages false r → Keeps s (accepted_by true names s r x)
still_after_symbols names s (Ok p) x still =
    keeps_also s p.1 (with_packages s p.0) (value names (with_packages s p.0) x) (λ none. ap (with_packages s) (still none).1) (value_silent names (with_packages s p.0) x)
still_after_symbols names s (Err e) x still = record { same = tt }

accepted_keeps : (names : List Name) (s : WorldState) (x : Object) → Keeps s (accept names s x)
accepted_keeps names s x =
    still_after_symbols names s (with_symbols_interned s.packages (symbols x)) x
    (one_unmoved after_symbol_interned (λ u (y : Symbol). intern_changes u y.0 y.1) symbol_still s.packages false (symbols x))

pub accepted_silent : (names : List Name) (s : WorldState) (x : Object) (d : Done Object) → accept names s x ≡ Ok d → d.wrote ≡ false → d.state ≡ s
accepted_silent names s x d is none = shown (accept names s x) (accepted_keeps names s x) is
  where
    shown : (o : Evaluation Object) → Keeps s o → o ≡ Ok d → d.state ≡ s
    shown o keeps same = (subst (Keeps s) same keeps).same none

-- ---- readtables
module _ (names : List Name) where
  covered_after_symbols : (s : WorldState) (r : Result (Table × Bool) PackageError) (x : Object) → keeping.Keeps (Covers names) s (accepted_by true names s r x)
  covered_after_symbols s (Ok p) x =
      keeping.keeps_also (Covers names) (covering names).both s p.1 (with_packages s p.0) (value names (with_packages s p.0) x) (λ all. all)
      (value_keeps true names (Covers names) (covering names) (λ _ t n all. all) (with_packages s p.0) x)
  covered_after_symbols s (Err e) x = record { kept = tt }

  pub accepted_covers : (s : WorldState) (x : Object) (d : Done Object) → accept names s x ≡ Ok d → AreCovered names s.readtables → AreCovered names d.state.readtables
  accepted_covers s x d is = shown (accept names s x) (covered_after_symbols s (with_symbols_interned s.packages (symbols x)) x) is
    where
      shown : (o : Evaluation Object) → keeping.Keeps (Covers names) s o → o ≡ Ok d → AreCovered names s.readtables → AreCovered names d.state.readtables
      shown o keeps same = (subst (keeping.Keeps (Covers names) s) same keeps).kept

-- ---- the base
module _ (names : List Name) where
  also_without_base : (s : WorldState) (wrote : Bool) (o p : Evaluation Object) (d : Done Object) → ((e : Done Object) → o ≡ Ok e → (p ≡ Ok e) × (e.state.read_base ≡ s.read_base))
      → also wrote o ≡ Ok d → (also wrote p ≡ Ok d) × (d.state.read_base ≡ s.read_base)
  also_without_base s wrote (Err code) p d each is = absurd (let no : Err code ≡ Ok d = is in cc)
  also_without_base s wrote (Ok e) p d each is =
      let both = each e refl in
      let base : d.state.read_base ≡ e.state.read_base = ap base_of (sym is) in
      (ap (also wrote) both.0 ∙ is, base ∙ both.1)
    where
      base_of : Evaluation Object → ℕ
      base_of (Ok f) = f.state.read_base
      base_of (Err code) = 0

  with_symbols_without_base : (s : WorldState) (r : Result (Table × Bool) PackageError) (x : Object) (d : Done Object) → accepted_by false names s r x ≡ Ok d
      → (accepted_by true names s r x ≡ Ok d) × (d.state.read_base ≡ s.read_base)
  with_symbols_without_base s (Ok p) x d is =
      also_without_base s p.1 (value_by false names (with_packages s p.0) x) (value_by true names (with_packages s p.0) x) d (λ e. value_without_base names (with_packages s p.0) x e) is
  with_symbols_without_base s (Err e) x d is = absurd (let no : Err (package_error_number e) ≡ Ok d = is in cc)

  pub accepted_without_base : (s : WorldState) (x : Object) (d : Done Object) → accept_by false names s x ≡ Ok d → (accept_by true names s x ≡ Ok d) × (d.state.read_base ≡ s.read_base)
  accepted_without_base s x d is = with_symbols_without_base s (with_symbols_interned s.packages (symbols x)) x d is

-- ---- more operators
module _ (based : Bool) (fewer more : OperatorTable) (wider : (s : WorldState) (x : Object) (d : Done Object) → value_over based fewer s x ≡ Ok d → value_over based more s x ≡ Ok d) where
  also_too : (wrote : Bool) (o p : Evaluation Object) (d : Done Object) → ((e : Done Object) → o ≡ Ok e → p ≡ Ok e) → also wrote o ≡ Ok d → also wrote p ≡ Ok d
  also_too wrote (Ok e) p d each is = ap (also wrote) (each e refl) ∙ is
  also_too wrote (Err code) p d each is = absurd (let no : Err code ≡ Ok d = is in cc)

  with_symbols_too : (s : WorldState) (r : Result (Table × Bool) PackageError) (x : Object) (d : Done Object) → accepted_over based fewer s r x ≡ Ok d → accepted_over based more s r x ≡ Ok d
  with_symbols_too s (Ok p) x d is =
      also_too p.1 (value_over based fewer (with_packages s p.0) x) (value_over based more (with_packages s p.0) x) d (wider (with_packages s p.0) x) is
  with_symbols_too s (Err e) x d is = absurd (let no : Err (package_error_number e) ≡ Ok d = is in cc)

  pub accepted_with_values : (s : WorldState) (x : Object) (d : Done Object) → accept_over based fewer s x ≡ Ok d → accept_over based more s x ≡ Ok d
  accepted_with_values s x d is = with_symbols_too s (with_symbols_interned s.packages (symbols x)) x d is

pub accepted_with_more : (based : Bool) (fewer more : OperatorTable) → IsOperatorTableWithin fewer more → (s : WorldState) (x : Object) (d : Done Object)
    → accept_over based fewer s x ≡ Ok d → accept_over based more s x ≡ Ok d
accepted_with_more based fewer more among = accepted_with_values based fewer more (wider_operators based fewer more among)

-- the operators of COMMON-LISP alone
pub accepted_as_before : (based : Bool) (names : List Name) (s : WorldState) (x : Object) (d : Done Object) → accept_over based (standard_operator_of names) s x ≡ Ok d → accept_by based names s x ≡ Ok d
accepted_as_before based names s x d is = accepted_with_more based (standard_operator_of names) (operator_of names) (standard_among names) s x d is

-- ---- numbers
pub symbol_numbered : (u : Table) (y : Symbol) → IsPackagesNumbered (after_symbol_interned u y)
symbol_numbered u y = of_table (after_intern u y.0 y.1) (numbered_intern u y.0 y.1)
  where
    of_table : (r : Result (Name × Table) PackageError) → IsPackagesNumbered r → IsPackagesNumbered (packages_of_interning r)
    of_table (Ok p) is = tt
    of_table (Err e) is = is

numbered_after_symbols : (names : List Name) (s : WorldState) (r : Result (Table × Bool) PackageError) (x : Object) → IsPackagesNumbered r → Numbered (accepted_by true names s r x)
numbered_after_symbols names s (Ok p) x is = numbered_also p.1 (value names (with_packages s p.0) x) (value_numbered names (with_packages s p.0) x)
numbered_after_symbols names s (Err e) x is = record { number = is }

accept_numbered : (names : List Name) (s : WorldState) (x : Object) → Numbered (accept names s x)
accept_numbered names s x =
    numbered_after_symbols names s (with_symbols_interned s.packages (symbols x)) x
    (one_numbered after_symbol_interned (λ u (y : Symbol). intern_changes u y.0 y.1) symbol_numbered s.packages false (symbols x))

pub accepted_numbered : (names : List Name) (s : WorldState) (x : Object) (code : ℕ) → accept names s x ≡ Err code → (30 ≤ code) × (code ≤ 47)
accepted_numbered names s x code is = (subst Numbered is (accept_numbered names s x)).number

-- ---- questions
answered_after_symbols : (names : List Name) (s : WorldState) (r : Result (Table × Bool) PackageError) (x : Object) → (new : Bool) × (accepted_by true names s r x ≡ also new (question_after_interning names s r x))
answered_after_symbols names s (Ok p) x = (p.1, refl)
answered_after_symbols names s (Err e) x = (false, refl)

pub accepted_as_asked : (names : List Name) (s : WorldState) (x : Object) → (new : Bool) × (accept names s x ≡ also new (question_value names s x))
accepted_as_asked names s x = answered_after_symbols names s (with_symbols_interned s.packages (symbols x)) x
