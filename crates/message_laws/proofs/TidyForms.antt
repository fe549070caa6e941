-- That a text leaves tidy property lists where it finds them.
--     given_tidy      in the world that an accepted text leaves
use Rattle.std.proofs.Common.{ℕ, ◌==◌, Bool, true, false, if◌then◌else◌, List, Ok, Err, Result, IfOk, length, sym, subst}
use Rattle.lisp_object.specs.Object.{Object}
use Rattle.lisp_operators.specs.Evaluation.{Evaluation}
use Rattle.lisp_operators.specs.Packages.{after_exports, after_imports, after_uses}
use Rattle.lisp_operators.proofs.Keeping.{Keeps}
use Rattle.lisp_reading.specs.Reading.{ReadingResult as Reading, form, empty, refused}
use Rattle.package_table.specs.declared.error.PackageError.{PackageError}
use Rattle.package_table.specs.Changes.{after_intern, after_make}
use Rattle.package_table.specs.Table.{Name, Table}
use Rattle.plist_state.specs.State.{WorldState}
use Rattle.plist_state.specs.Changes.{with_packages}
use Rattle.form_eval.specs.Acceptance.{accept, with_symbols_interned}
use Rattle.session_words.specs.declared.mode.Mode.{Mode}
use Rattle.prevalence_store.specs.calls.ExecuteAll.{world_left_after}
use Rattle.prevalence_store.specs.meaning.Acceptance.{Acceptance, acceptance_of, accepted_of, accepts, between, read_in, transaction_value}
use Rattle.prevalence_store.specs.meaning.Forgetting.{forgetting, is_forgetting}
use Rattle.user_macros.specs.Functions.{Functions}
use Rattle.message_laws.specs.NearRounds.{IsTidy}
use Rattle.message_laws.proofs.KeptForms.{accepted_keeps}
use Rattle.message_laws.proofs.KeptOperators.{HoldsOfChanges, LeavesKept}
use Rattle.message_laws.proofs.Tidy.{tidy_put, tidy_removed}

-- tidy lists stay tidy
abbrev StaysTidy : WorldState → WorldState → Type 0
StaysTidy s t = IsTidy s.properties → IsTidy t.properties

-- packages are no matter
with_tables : {A : Type 0} (table : A → Table) (s : WorldState) (r : Result A PackageError) → IfOk r (λ made. StaysTidy s (with_packages s (table made)))
with_tables table s (Ok made) = λ tidy. tidy
with_tables table s (Err e) = tt

tidy_changes : HoldsOfChanges StaysTidy
tidy_changes = record {
  both = λ s t u first second tidy. second (first tidy);
  still = λ s t properties packages. subst IsTidy (sym properties);
  put = tidy_put;
  removed = tidy_removed;
  make = λ s n. with_tables (λ later. later) s (after_make s.packages n);
  intern = λ s p n. with_tables (λ (made : Name × Table). made.1) s (after_intern s.packages p n);
  interns = λ s xs. with_tables (λ (made : Table × Bool). made.0) s (with_symbols_interned s.packages xs);
  exports = λ s p xs. with_tables (λ (made : Table × Bool). made.0) s (after_exports s.packages p xs);
  imports = λ s p xs. with_tables (λ (made : Table × Bool). made.0) s (after_imports s.packages p xs);
  uses = λ s p qs. with_tables (λ (made : Table × Bool). made.0) s (after_uses s.packages p qs);
}

-- FORGET-NAMES leaves the property lists as they are
transacted_tidy : (names : List Name) (s : WorldState) (x : Object) → Keeps StaysTidy s (transaction_value names s x)
transacted_tidy names s x = by_test (is_forgetting x)
  where
    by_test : (forgets : Bool) → Keeps StaysTidy s (if forgets then forgetting s else accept names s x)
    by_test true = record { kept = λ tidy. tidy }
    by_test false = accepted_keeps names StaysTidy tidy_changes s x

module _ (functions : Functions) (s : WorldState) (tidy : IsTidy s.properties) where
  abbrev IsTidyAfter : Result Acceptance ℕ → Type 0
  IsTidyAfter given = IsTidy (world_left_after s given).properties

  of_evaluation : (text : List ℕ) (o : Evaluation Object) → Keeps StaysTidy s o → IsTidyAfter (acceptance_of text o)
  of_evaluation text (Ok d) keeps = keeps.kept tidy
  of_evaluation text (Err number) keeps = tidy

  of_form : (own : List ℕ) (x : Object) (whole : Bool) → IsTidyAfter (if whole then acceptance_of own (transaction_value functions.names s x) else Err 26)
  of_form own x true = of_evaluation own (transaction_value functions.names s x) (transacted_tidy functions.names s x)
  of_form own x false = tidy

  of_reading : (text : List ℕ) (read : Reading) → IsTidyAfter (accepted_of functions s text read)
  of_reading text (form x start «end» next) = of_form (between start «end» text) x (next == length text)
  of_reading text empty = tidy
  of_reading text (refused number at) = tidy

  pub given_tidy : (mode : Mode) (text : List ℕ) → IsTidyAfter (accepts functions s mode text)
  given_tidy mode text = of_reading text (read_in functions s mode text)
