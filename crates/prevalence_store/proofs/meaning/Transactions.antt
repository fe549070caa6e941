-- What holds of a form as the store carries it out: of FORGET-NAMES, and of one that form_eval accepts.
--     none_left      where no name would go, the state is as it was
--     forgetting_form      FORGET-NAMES takes the names away
--     not_forgetting, refused_alike      any other form is what form_eval says, and so is one that is refused
--     leaves_refused      a refusal is one where the value is not asked for
--     transacted_silent      one that does not write leaves the world as it was
--     transacted_covers      it leaves no readtables which name other functions than those that may be named
--     transacted_numbered      it is refused under a number of evaluation
--     no_operator      where FORGET-NAMES is no operator, it is not accepted
use Rattle.std.proofs.Common.{◌≡◌, ◌≤◌, ℕ, Bool, true, false, if◌then◌else◌, List, [], ◌∷◌, length, Option, None, Result, Ok, Err, refl, sym, ap, subst, ◌∙◌, arith, codes, bytes_eq}
use Rattle.std.specs.Prelude.{nat_lt}
use Rattle.std.proofs.lemmas.Bool.{and_parts}
use Rattle.std.proofs.lemmas.Slice.Eq.{bytes_eq-Decides}
use Rattle.lisp_object.specs.Object.{Object, integer, rational, character, text, symbol, uninterned, pair, vector, nil}
use Rattle.lisp_object.specs.declared.refusal.TheConstants.{UNKNOWN_OPERATOR}
use Rattle.package_table.specs.declared.error.PackageError.{PackageError}
use Rattle.package_table.specs.ErrorNumbers.{package_error_number}
use Rattle.package_table.specs.Symbols.{symbols}
use Rattle.package_table.specs.Table.{Name, Table}
use Rattle.plist_state.specs.Changes.{with_packages}
use Rattle.plist_state.specs.Properties.{Symbol}
use Rattle.plist_state.specs.State.{WorldState}
use Rattle.lisp_operators.specs.Evaluation.{Done, Evaluation, also}
use Rattle.lisp_operators.specs.declared.error.EvaluationError.{EvaluationError}
use Rattle.lisp_operators.specs.declared.error.EvaluationError.TheVariants.{Refused, OutOfMemory}
use Rattle.lisp_operators.specs.Effects.{Leaves}
use Rattle.lisp_operators.specs.EvaluationAnswers.{Answers, done}
use Rattle.lisp_operators.specs.Readtables.{AreCovered}
use Rattle.evaluator.specs.Operators.{Operator, OperatorTable, pazturrok}
use Rattle.evaluator.specs.Value.{Parts, form_value_by, value_over}
use Rattle.form_eval.specs.Acceptance.{accept, accept_over, accepted_over, with_symbols_interned}
use Rattle.form_eval.proofs.Accepted.{accepted_covers, accepted_numbered, accepted_silent}
use Rattle.forgotten_names.specs.WorldsWithoutNames.{forgettable, without_unneeded_symbols}
use Rattle.forgotten_names.proofs.NothingForgotten.{nothing_forgotten}
use Rattle.prevalence_store.specs.meaning.Acceptance.{transaction_value}
use Rattle.prevalence_store.specs.meaning.Forgetting.{forget_names, forgettable_count, forgetting, held_symbols, is_forget_names, is_forgetting, is_nothing}

-- ---- what it leaves

-- the state after an evaluation, and whether it wrote, where it is not refused
abbrev state_of : WorldState → Evaluation Object → WorldState
state_of s (Ok d) = d.state
state_of s (Err number) = s

abbrev wrote_of : Evaluation Object → Bool
wrote_of (Ok d) = d.wrote
wrote_of (Err number) = false

no_items : (xs : List Symbol) → nat_lt 0 (length xs) ≡ false → xs ≡ []
no_items [] is = refl
no_items (x ∷ xs) is = absurd (grind (arith, is))

forgetting_silent : (s : WorldState) (d : Done Object) → forgetting s ≡ Ok d → d.wrote ≡ false → d.state ≡ s
forgetting_silent s d is none =
    sym (ap (state_of s) is) ∙ nothing_forgotten held_symbols s (no_items (forgettable held_symbols s) (ap wrote_of is ∙ none))

-- where no name would go, the state is as it was
pub none_left : (s : WorldState) → forgettable_count s ≡ 0 → without_unneeded_symbols held_symbols s ≡ s
none_left s none = nothing_forgotten held_symbols s (no_items (forgettable held_symbols s) (ap (nat_lt 0) none))

module _ (names : List Name) where
  -- a form by the test
  abbrev by_test : WorldState → Object → Bool → Evaluation Object
  by_test s x forgets = if forgets then forgetting s else accept names s x

  pub forgetting_form : (s : WorldState) (x : Object) → is_forgetting x ≡ true → transaction_value names s x ≡ forgetting s
  forgetting_form s x is = ap (by_test s x) is

  pub not_forgetting : (s : WorldState) (x : Object) → is_forgetting x ≡ false → transaction_value names s x ≡ accept names s x
  not_forgetting s x other = ap (by_test s x) other

  pub refused_alike : (s : WorldState) (x : Object) (number : ℕ) → transaction_value names s x ≡ Err number → accept names s x ≡ Err number
  refused_alike s x number = by_form (is_forgetting x)
    where
      by_form : (forgets : Bool) → by_test s x forgets ≡ Err number → accept names s x ≡ Err number
      by_form true is = absurd (let no : forgetting s ≡ Err number = is in cc)
      by_form false is = is

  pub transacted_silent : (s : WorldState) (x : Object) (d : Done Object) → transaction_value names s x ≡ Ok d → d.wrote ≡ false → d.state ≡ s
  transacted_silent s x d = by_form (is_forgetting x)
    where
      by_form : (forgets : Bool) → by_test s x forgets ≡ Ok d → d.wrote ≡ false → d.state ≡ s
      by_form true is none = forgetting_silent s d is none
      by_form false is none = accepted_silent names s x d is none

  pub transacted_covers : (s : WorldState) (x : Object) (d : Done Object) → transaction_value names s x ≡ Ok d → AreCovered names s.readtables → AreCovered names d.state.readtables
  transacted_covers s x d = by_form (is_forgetting x)
    where
      by_form : (forgets : Bool) → by_test s x forgets ≡ Ok d → AreCovered names s.readtables → AreCovered names d.state.readtables
      by_form true is all = subst (λ (t : WorldState). AreCovered names t.readtables) (ap (state_of s) is) all
      by_form false is all = accepted_covers names s x d is all

  pub transacted_numbered : (s : WorldState) (x : Object) (number : ℕ) → transaction_value names s x ≡ Err number → (30 ≤ number) × (number ≤ 47)
  transacted_numbered s x number is = accepted_numbered names s x number (refused_alike s x number is)

pub leaves_refused : (error : EvaluationError) (s : WorldState) (said : Evaluation Object) → Answers done (Err error) s said → Leaves (Err error) s said
leaves_refused (Refused number) s said is = is
leaves_refused OutOfMemory s said is = tt

-- ---- a table that has no such operator

abbrev form : Object
form = pair forget_names nil

its_symbol : (x : Object) → is_forget_names x ≡ true → x ≡ forget_names
its_symbol (symbol home name) is =
    let both = and_parts (bytes_eq home pazturrok) (bytes_eq name (codes "FORGET-NAMES")) is in
    λ i. symbol ((bytes_eq-Decides home pazturrok).0 both.0 i) ((bytes_eq-Decides name (codes "FORGET-NAMES")).0 both.1 i)
its_symbol (integer n) is = absurd (cc)
its_symbol (rational n d) is = absurd (cc)
its_symbol (character c) is = absurd (cc)
its_symbol (text characters) is = absurd (cc)
its_symbol (uninterned name) is = absurd (cc)
its_symbol (pair a b) is = absurd (cc)
its_symbol (vector xs) is = absurd (cc)

no_arguments : (x : Object) → is_nothing x ≡ true → x ≡ nil
no_arguments (symbol home name) is =
    let both = and_parts (bytes_eq home (codes "COMMON-LISP")) (bytes_eq name (codes "NIL")) is in
    λ i. symbol ((bytes_eq-Decides home (codes "COMMON-LISP")).0 both.0 i) ((bytes_eq-Decides name (codes "NIL")).0 both.1 i)
no_arguments (integer n) is = absurd (cc)
no_arguments (rational n d) is = absurd (cc)
no_arguments (character c) is = absurd (cc)
no_arguments (text characters) is = absurd (cc)
no_arguments (uninterned name) is = absurd (cc)
no_arguments (pair a b) is = absurd (cc)
no_arguments (vector xs) is = absurd (cc)

its_form : (x : Object) → is_forgetting x ≡ true → x ≡ form
its_form (pair head arguments) is =
    let both = and_parts (is_forget_names head) (is_nothing arguments) is in
    λ i. pair (its_symbol head both.0 i) (no_arguments arguments both.1 i)
its_form (symbol home name) is = absurd (cc)
its_form (integer n) is = absurd (cc)
its_form (rational n d) is = absurd (cc)
its_form (character c) is = absurd (cc)
its_form (text characters) is = absurd (cc)
its_form (uninterned name) is = absurd (cc)
its_form (vector xs) is = absurd (cc)

module _ (based : Bool) (table : OperatorTable) (none : table forget_names ≡ None) where
  of_none : (s : WorldState) (operator : Option Operator) (parts : Parts) → operator ≡ None → form_value_by based s operator nil parts ≡ Err UNKNOWN_OPERATOR
  of_none s operator parts is = ap (λ o. form_value_by based s o nil parts) is

  value_unknown : (s : WorldState) → value_over based table s form ≡ Err UNKNOWN_OPERATOR
  unfolding value_over
  value_unknown s = of_none s (table forget_names) _ none

  after_symbols : (s : WorldState) (r : Result (Table × Bool) PackageError) (d : Done Object) → accepted_over based table s r form ≡ Ok d → ⊥
  after_symbols s (Ok p) d is = let no : ◌≡◌ {A = Evaluation Object} (Err UNKNOWN_OPERATOR) (Ok d) = sym (ap (also p.1) (value_unknown (with_packages s p.0))) ∙ is in absurd (cc)
  after_symbols s (Err e) d is = let no : ◌≡◌ {A = Evaluation Object} (Err (package_error_number e)) (Ok d) = is in absurd (cc)

  pub no_operator : (s : WorldState) (x : Object) (d : Done Object) → accept_over based table s x ≡ Ok d → is_forgetting x ≡ false
  no_operator s x d is = by_test (is_forgetting x) refl
    where
      by_test : (forgets : Bool) → is_forgetting x ≡ forgets → forgets ≡ false
      by_test true same =
          absurd (after_symbols s (with_symbols_interned s.packages (symbols form)) d (subst (λ y. accept_over based table s y ≡ Ok d) (its_form x same) is))
      by_test false same = refl
