-- That a world which the files mean names no functions but those of the standard readtable and of the program.
--     covers, covered_by      a world is covered if each of its readtables is
--     after_covers            forms leave such a world
--     registered_covers       if all names are registered, and only names are, the registered ones say the same
use Rattle.std.proofs.Common.{◌≡◌, ℕ, ◌==◌, ◌||◌, Bool, true, false, cond, List, [], ◌∷◌, length, Option, None, Some, is_some, Result, Ok, Err, IsTrue, inl, inr, refl, sym, ap, subst, ◌∙◌, unwrap_or}
use Rattle.std.specs.Prelude.{if◌then◌else◌}
use Rattle.std.specs.List.{list_all, list_any}
use Rattle.std.specs.Ordering.{eq_by_cmp}
use Rattle.std.specs.FinMap as finite
use Rattle.std.specs.FinMap.{contains_key-keys, get-empty, get-insert}
use Rattle.std.proofs.lemmas.Bool.{false≢true, or_cases, and_parts}
use Rattle.gate_log.specs.Layout.{Contents, LogRecord}
use Rattle.lisp_object.specs.Object.{Object}
use Rattle.readtable_core.specs.NamedFunctions.{functions_of as named_by}
use Rattle.readtable_core.specs.Names.{is_among, is_dispatch_name, is_standard}
use Rattle.readtable_core.specs.Tables.{Table, standard}
use Rattle.package_table.specs.Table.{Name, name_cmp}
use Rattle.plist_state.specs.Readers.{readtable_names}
use Rattle.plist_state.specs.State.{WorldState, first_readtables, initial, standard_name, user_name}
use Rattle.plist_state.proofs.Orders.{name_total, one_name}
use Rattle.user_macros.specs.Registry.{is_covered}
use Rattle.user_macros.proofs.Covered.{standard_covered}
use Rattle.lisp_operators.specs.Readtables.{AreCovered}
use Rattle.lisp_operators.specs.Evaluation.{Evaluation}
use Rattle.lisp_reading.specs.Reading.{ReadingResult as Reading, form, empty, refused}
use Rattle.snapshot_text.specs.NamedFunctions.{are_covered}
use Rattle.world_text.specs.Snapshot.{snapshot_readtable}
use Rattle.world_text.proofs.Ascii.{keys_pass}
use Rattle.prevalence_store.specs.meaning.Acceptance.{Acceptance, acceptance_of, accepted_of, accepts, after, between, mode_of, read_in, transaction_value}
use Rattle.user_macros.specs.Functions.{Functions}
use Rattle.prevalence_store.specs.meaning.Files.{ContentsMean}
use Rattle.lisp_object.specs.declared.refusal.TheConstants.{TEXT_LEFT_OVER}
use Rattle.prevalence_store.proofs.meaning.Transactions.{transacted_covers}

-- ---- a world, and each of its readtables

passes_each : (p : Name → Bool) (ks : List Name) (n : Name) → list_all p ks ≡ true → list_any (eq_by_cmp name_cmp n) ks ≡ true → p n ≡ true
passes_each p [] n all there = absurd (cc)
passes_each p (k ∷ ks) n all there =
    let parts = and_parts (p k) (list_all p ks) all in
    elim (or_cases (eq_by_cmp name_cmp n k) (list_any (eq_by_cmp name_cmp n) ks) there) [
      | inl same ↦ subst (λ x. p x ≡ true) (sym (one_name n k same)) parts.0
      | inr later ↦ passes_each p ks n parts.1 later
    ]

-- what the first readtables have at a name
at_first : (n : Name) → finite.get first_readtables n ≡ cond (eq_by_cmp name_cmp n user_name) (Some standard) (cond (eq_by_cmp name_cmp n standard_name) (Some standard) None)
at_first n =
    get-insert name_total (finite.insert finite.empty standard_name standard) user_name standard n
    ∙ ap (cond (eq_by_cmp name_cmp n user_name) (Some standard))
    (get-insert name_total finite.empty standard_name standard n
    ∙ ap (cond (eq_by_cmp name_cmp n standard_name) (Some standard)) (get-empty name_cmp n))

module _ (names : List Name) where
  abbrev is_named_covered : WorldState → Name → Bool
  is_named_covered w n = list_all (is_covered names) (named_by (snapshot_readtable w n))

  pub covers : (w : WorldState) → are_covered names w ≡ true → AreCovered names w.readtables
  covers w all n t there =
      let among : list_any (eq_by_cmp name_cmp n) (finite.keys w.readtables) ≡ true = sym (contains_key-keys w.readtables n) ∙ ap is_some there in
      subst (λ (o : Option Table). list_all (is_covered names) (named_by (unwrap_or o standard)) ≡ true) there (passes_each (is_named_covered w) (finite.keys w.readtables) n all among)

  pub covered_by : (w : WorldState) → AreCovered names w.readtables → are_covered names w ≡ true
  covered_by w each = keys_pass w.readtables (is_named_covered w) (λ n there. by_table n (finite.get w.readtables n) refl there) where
    by_table : (n : Name) (o : Option Table) → finite.get w.readtables n ≡ o → IsTrue (is_some (finite.get w.readtables n)) → is_named_covered w n ≡ true
    by_table n (Some t) is there = subst (λ (o : Option Table). list_all (is_covered names) (named_by (unwrap_or o standard)) ≡ true) (sym is) (each n t is)
    by_table n None is there = absurd (false≢true (sym (ap is_some is) ∙ there))

  -- ---- the first world

  first_tables : AreCovered names first_readtables
  first_tables n t there =
      by_name (eq_by_cmp name_cmp n user_name) (eq_by_cmp name_cmp n standard_name) (sym (at_first n) ∙ there)
    where
      by_name : (a b : Bool) → cond a (Some standard) (cond b (Some standard) None) ≡ Some t → list_all (is_covered names) (named_by t) ≡ true
      by_name true b is = subst (λ (o : Option Table). list_all (is_covered names) (named_by (unwrap_or o standard)) ≡ true) is (standard_covered names)
      by_name false true is = subst (λ (o : Option Table). list_all (is_covered names) (named_by (unwrap_or o standard)) ≡ true) is (standard_covered names)
      by_name false false is = absurd (cc)

  pub initial_covered : are_covered names initial ≡ true
  initial_covered = covered_by initial first_tables

-- ---- forms

module _ (functions : Functions) where
  evaluated : (w : WorldState) (text : List ℕ) (x : Object) (given : Acceptance) (b : Bool) (o : Evaluation Object) → transaction_value functions.names w x ≡ o
      → ◌≡◌ {A = Result Acceptance ℕ} (if b then acceptance_of text o else Err TEXT_LEFT_OVER) (Ok given)
      → AreCovered functions.names w.readtables → AreCovered functions.names given.world.readtables
  evaluated w text x given true (Ok d) is gives all =
      let same : d.state ≡ given.world = cc in
      subst (λ (v : WorldState). AreCovered functions.names v.readtables) same (transacted_covers functions.names w x d is all)
  evaluated w text x given true (Err code) is gives all = absurd (cc)
  evaluated w text x given false o is gives all = absurd (cc)

  by_reading : (w : WorldState) (text : List ℕ) (given : Acceptance) (read : Reading) → accepted_of functions w text read ≡ Ok given
      → AreCovered functions.names w.readtables → AreCovered functions.names given.world.readtables
  by_reading w text given (form x start «end» next) is all =
      evaluated w (between start «end» text) x given (next == length text) (transaction_value functions.names w x) refl is all
  by_reading w text given empty is all = absurd (cc)
  by_reading w text given (refused number at) is all = absurd (cc)

  pub after_covers : (w v : WorldState) (entries : List LogRecord) → after functions w entries ≡ Some v → AreCovered functions.names w.readtables → AreCovered functions.names v.readtables
  after_covers w v [] is all = let same : w ≡ v = cc in subst (λ (u : WorldState). AreCovered functions.names u.readtables) same all
  after_covers w v (entry ∷ entries) is all =
      by_first (λ u made covered. after_covers u v entries made covered) (accepts functions w (mode_of entry.kind) entry.text) refl is
    where
      by_first : ((u : WorldState) → after functions u entries ≡ Some v → AreCovered functions.names u.readtables → AreCovered functions.names v.readtables)
          → (given : Result Acceptance ℕ) → accepts functions w (mode_of entry.kind) entry.text ≡ given
          → elim given [ Ok a ↦ after functions a.world entries | Err n ↦ None ] ≡ Some v → AreCovered functions.names v.readtables
      by_first later (Ok a) accepted rest = later a.world rest (by_reading w entry.text a (read_in functions w (mode_of entry.kind) entry.text) accepted all)
      by_first later (Err n) accepted rest = absurd (cc)

  -- the world of what a log holds
  pub held_covered : (k : Contents) (w : WorldState) → ContentsMean functions k w → are_covered functions.names w ≡ true
  held_covered k w mean = covered_by functions.names w (after_covers mean.first w k.entries mean.records (covers functions.names mean.first mean.covered))

-- ---- what is registered

pub registered_covers : (names registered : List Name) → ((name : Name) → is_among registered name ≡ is_among names name)
    → (w : WorldState) → are_covered registered w ≡ are_covered names w
registered_covers names registered same w =
    λ i. list_all (λ n. list_all (λ name. is_standard name || (is_dispatch_name name || same name i)) (named_by (snapshot_readtable w n))) (readtable_names w)
