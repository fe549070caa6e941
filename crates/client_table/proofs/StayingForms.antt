-- That the symbols of an entry stay there, whatever a text does.
--     entry_has      an entry in a sound world has its symbols
--     given_has      and has them in the world that a text leaves
use Rattle.std.proofs.Common.{◌≡◌, ℕ, ◌==◌, Bool, true, false, if◌then◌else◌, List, [], ◌∷◌, ◌++◌, length, refl, Option, Some, None, IsSome, Result, Ok, Err, is_some, cond, sym, ap, subst, ◌∙◌}
use Rattle.std.specs.Prelude.{All, IsTrue, unwrap_or}
use Rattle.std.specs.FinMap as finite
use Rattle.std.proofs.lemmas.Bool.{false≢true}
use Rattle.std.proofs.lemmas.List.Elements.{All-head, All-tail}
use Rattle.client_table.specs.Entries.{HasEntrySymbols, entry_property, message_symbol, table_package}
use Rattle.client_table.proofs.StayingSymbols.{Stay, StayAfter, StayInterned, each_stays, export_stays, import_stays, intern_stays, make_stays, stay_same, use_stays}
use Rattle.forgotten_names.specs.WorldsWithoutNames.{without_unneeded_symbols}
use Rattle.forgotten_names.specs.NeededSymbols.{plist_symbols, stands_among}
use Rattle.forgotten_names.proofs.ForgottenSound.{symbol_stays}
use Rattle.forgotten_names.proofs.Members.{among_itself, among_later, among_left, among_right}
use Rattle.forgotten_names.proofs.NeededSymbols.{in_list}
use Rattle.form_eval.specs.Acceptance.{accept, after_symbol_interned, is_new_symbol, packages_of_interning}
use Rattle.lisp_object.specs.Object.{Object}
use Rattle.lisp_operators.specs.Evaluation.{Evaluation}
use Rattle.lisp_operators.proofs.Keeping.{Keeps}
use Rattle.message_laws.proofs.KeptForms.{accepted_keeps}
use Rattle.message_laws.proofs.KeptOperators.{HoldsOfChanges}
use Rattle.lisp_reading.specs.Reading.{ReadingResult as Reading, form, empty, refused}
use Rattle.package_table.specs.declared.error.PackageError.{PackageError}
use Rattle.package_table.specs.Changes.{after_export, after_import, after_intern, after_use, export_changes, import_changes, use_changes}
use Rattle.package_table.specs.Symbols.{symbols}
use Rattle.package_table.specs.Table.{Name, Table}
use Rattle.plist_state.specs.Properties.{Plist, Symbol, list_at, same_symbol, value_at}
use Rattle.plist_state.specs.Sound.{IsSoundWorldState, IsSymbol}
use Rattle.plist_state.specs.State.{WorldState}
use Rattle.plist_state.proofs.Orders.{one_symbol}
use Rattle.prevalence_store.specs.calls.ExecuteAll.{world_left_after}
use Rattle.prevalence_store.specs.meaning.Acceptance.{Acceptance, acceptance_of, accepted_of, accepts, between, read_in, transaction_value}
use Rattle.prevalence_store.specs.meaning.Forgetting.{forgetting, held_symbols, is_forgetting}
use Rattle.session_words.specs.declared.mode.Mode.{Mode}
use Rattle.user_macros.specs.Functions.{Functions}

-- these symbols stay
abbrev Kept : WorldState → WorldState → Type 0
Kept s t = Stay s.packages t.packages

table_stays : (t : Table) (r : Result (Name × Table) PackageError) → StayInterned t r → StayAfter t (packages_of_interning r)
table_stays t (Ok p) stays = stays
table_stays t (Err e) stays = tt

staying_changes : HoldsOfChanges Kept
staying_changes = record {
  both = λ s t u first second m there. second m (first m there);
  still = λ s t properties packages. subst (Stay s.packages) (sym packages) (stay_same s.packages);
  put = λ s x i v. stay_same s.packages;
  removed = λ s x i. stay_same s.packages;
  make = λ s n. make_stays s.packages n;
  intern = λ s p n. intern_stays s.packages p n;
  interns = λ s xs. each_stays after_symbol_interned is_new_symbol (λ u y. table_stays u (after_intern u y.0 y.1) (intern_stays u y.0 y.1)) s.packages false xs;
  exports = λ s p xs. each_stays (λ v y. after_export v p y.0 y.1) (λ v y. export_changes v p y.1) (λ v y. export_stays v p y.0 y.1) s.packages false xs;
  imports = λ s p xs. each_stays (λ v y. after_import v p y.0 y.1) (λ v y. import_changes v p y.1) (λ v y. import_stays v p y.0 y.1) s.packages false xs;
  uses = λ s p qs. each_stays (λ v q. after_use v p q) (λ v q. use_changes v p q) (λ v q. use_stays v p q) s.packages false qs;
}

-- ---- an entry has its symbols

-- an indicator that has a value stands in the list
stands_by : (ps : Plist) (i : Symbol) → IsSome (value_at ps i) → stands_among i (plist_symbols ps) ≡ true
stands_by [] i some = absurd (cc)
stands_by (p ∷ ps) i some = by (same_symbol i p.0) refl (stands_by ps i) some
  where
    by : (b : Bool) → same_symbol i p.0 ≡ b → (IsSome (value_at ps i) → stands_among i (plist_symbols ps) ≡ true) → IsSome (cond b (Some p.1) (value_at ps i))
        → stands_among i ((p.0 ∷ symbols p.1) ++ plist_symbols ps) ≡ true
    by true is rest some = among_left i (p.0 ∷ symbols p.1) (plist_symbols ps) (subst (λ (x : Symbol). stands_among i (x ∷ symbols p.1) ≡ true) (one_symbol i p.0 is) (among_itself i (symbols p.1)))
    by false is rest some = among_right i (p.0 ∷ symbols p.1) (plist_symbols ps) (rest some)

indicator_is : (t : Table) (ps : Plist) (i : Symbol) → All (λ (p : Symbol × Object). IsSymbol t p.0) ps → IsSome (value_at ps i) → IsSymbol t i
indicator_is t [] i all some = absurd (cc)
indicator_is t (p ∷ ps) i all some = by (same_symbol i p.0) refl (indicator_is t ps i (All-tail (λ (p : Symbol × Object). IsSymbol t p.0) p ps all)) some
  where
    by : (b : Bool) → same_symbol i p.0 ≡ b → (IsSome (value_at ps i) → IsSymbol t i) → IsSome (cond b (Some p.1) (value_at ps i)) → IsSymbol t i
    by true is rest some = subst (IsSymbol t) (sym (one_symbol i p.0 is)) (All-head (λ (p : Symbol × Object). IsSymbol t p.0) p ps all)
    by false is rest some = rest some

module _ (s : WorldState) (name : List ℕ) where
  abbrev owner : Symbol
  owner = (table_package, name)

  -- the list in which the entry stands
  listed : IsSome (entry_property s name) → (ps : Plist) × (finite.get s.properties owner ≡ Some ps) × IsSome (value_at ps message_symbol)
  listed some = by (finite.get s.properties owner) refl some
    where
      by : (o : Option Plist) → finite.get s.properties owner ≡ o → IsSome (value_at (unwrap_or o []) message_symbol)
          → (ps : Plist) × (finite.get s.properties owner ≡ Some ps) × IsSome (value_at ps message_symbol)
      by None is some = absurd (cc)
      by (Some ps) is some = (ps, is, some)

  pub entry_has : IsSoundWorldState s → IsSome (entry_property s name) → HasEntrySymbols s name
  entry_has sound some =
      let list = listed some in (
        sound.symbols owner (ap is_some list.1),
        indicator_is s.packages list.0 message_symbol (sound.properties owner list.0 list.1).indicators list.2,
      )

  -- FORGET-NAMES leaves them, since the world needs them
  forgotten_has : HasEntrySymbols s name → IsSome (entry_property s name) → HasEntrySymbols (without_unneeded_symbols held_symbols s) name
  forgotten_has has some =
      let list = listed some in (
        symbol_stays held_symbols s owner has.0 (in_list held_symbols s owner list.0 list.1 owner (among_itself owner (plist_symbols list.0))),
        symbol_stays held_symbols s message_symbol has.1
            (in_list held_symbols s owner list.0 list.1 message_symbol (among_later message_symbol owner (plist_symbols list.0) (stands_by list.0 message_symbol list.2))),
      )

  kept_has : (t : WorldState) → Kept s t → HasEntrySymbols s name → HasEntrySymbols t name
  kept_has t stays has = (stays name has.0, stays message_symbol.1 has.1)

  -- ---- in the world that a text leaves

  module _ (has : HasEntrySymbols s name) (some : IsSome (entry_property s name)) where
    abbrev HasAfter : Evaluation Object → Type 0
    HasAfter (Ok d) = HasEntrySymbols d.state name
    HasAfter (Err number) = Unit {0}

    of_kept : (o : Evaluation Object) → Keeps Kept s o → HasAfter o
    of_kept (Ok d) keeps = kept_has d.state keeps.kept has
    of_kept (Err number) keeps = tt

    transacted_has : (names : List Name) (x : Object) → HasAfter (transaction_value names s x)
    transacted_has names x = by_test (is_forgetting x)
      where
        by_test : (forgets : Bool) → HasAfter (if forgets then forgetting s else accept names s x)
        by_test true = forgotten_has has some
        by_test false = of_kept (accept names s x) (accepted_keeps names Kept staying_changes s x)

    of_evaluation : (own : List ℕ) (o : Evaluation Object) → HasAfter o → HasEntrySymbols (world_left_after s (acceptance_of own o)) name
    of_evaluation own (Ok d) after = after
    of_evaluation own (Err number) after = has

    module _ (functions : Functions) where
      of_form : (own : List ℕ) (x : Object) (whole : Bool) → HasEntrySymbols (world_left_after s (if whole then acceptance_of own (transaction_value functions.names s x) else Err 26)) name
      of_form own x true = of_evaluation own (transaction_value functions.names s x) (transacted_has functions.names x)
      of_form own x false = has

      of_reading : (text : List ℕ) (read : Reading) → HasEntrySymbols (world_left_after s (accepted_of functions s text read)) name
      of_reading text (form x start «end» next) = of_form (between start «end» text) x (next == length text)
      of_reading text empty = has
      of_reading text (refused number at) = has

      pub given_has : (mode : Mode) (text : List ℕ) → HasEntrySymbols (world_left_after s (accepts functions s mode text)) name
      given_has mode text = of_reading text (read_in functions s mode text)
