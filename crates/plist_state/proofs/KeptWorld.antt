-- That the calls on readtables keep a state sound, and what a result says of what is kept.
--     kept_rest, kept_gives      what a call leaves that answers its definition or changes nothing
--     sound_changed      a change of one readtable
--     named_case, named_macro, named_dispatching, named_dispatched, named_syntax      the readtable after each change
--     sound_copied      a copy
use Rattle.std.proofs.Common.{◌≡◌, ◌+◌, ◌≤◌, ◌<◌, ℕ, Bool, true, false, not, ◌&&◌, cond, Option, None, Some, Result, Ok, Err, IsOk, IsTrue, IsFalse, is_some, refl, sym, ap, subst, ◌∙◌, arith}
use Rattle.std.specs.Prelude.{nat_le, bytes_eq, if◌then◌else◌, IfErr, OnOk, OnErr}
use Rattle.std.specs.Option.{option_map_or}
use Rattle.std.proofs.lemmas.Bool.{false≢true, and_from, leb-false}
use Rattle.std.specs.FinMap as finite
use Rattle.std.specs.FinMap.{len-insert}
use Rattle.readtable_core.specs.declared.table.Case.{Case}
use Rattle.readtable_core.specs.declared.refusal.DispatchRefusal.{DispatchRefusal}
use Rattle.readtable_core.specs.declared.refusal.DispatchRefusal.TheVariants.{NotDispatching as NoDispatch, DigitSubcharacter as Digit}
use Rattle.readtable_core.specs.Characters.{is_digit}
use Rattle.readtable_core.specs.Names.{is_dispatch_name, is_function_name, dispatch_name}
use Rattle.readtable_core.specs.Tables.{Table, entry_at}
use Rattle.readtable_core.specs.Sound.{is_dispatching}
use Rattle.readtable_core.specs.Changes.{with_character_entry, macro_entry, dispatching_entry, with_dispatch_function}
use Rattle.readtable_core.proofs.Sound as readtable_sound
use Rattle.readtable_core.proofs.Named.{named_after, named_at, named_with_function}
use Rattle.package_table.specs.Table as packages
use Rattle.package_table.specs.Table.{Name, keyword, keyword_names}
use Rattle.package_table.specs.Lookup.{is_symbol}
use Rattle.package_table.proofs.Frames.{equal_itself}
use Rattle.plist_state.specs.declared.error.ReadtableError.{ReadtableError}
use Rattle.plist_state.specs.declared.error.ReadtableError.TheVariants.{NoReadtable, StandardReadtable, Limit}
use Rattle.plist_state.specs.State.{Readtables, WorldState, standard_name}
use Rattle.plist_state.specs.Views.{NumberedRest}
use Rattle.plist_state.specs.Changes.{put_changed, readtables_with_change, changed_readtable, with_sub_function, readtable_error_of, with_copy, with_syntax, AnswersReadtables}
use Rattle.plist_state.specs.Sound.{IsSymbol, HasKeywordFunctions, IsSoundWorldState}
use Rattle.plist_state.proofs.Orders.{name_total}
use Rattle.plist_state.proofs.Soundness.{sound_table, symbol_from}

pub kept_rest : {A E : Type 0} (res : Result A E) (P : NumberedRest → Type 0) (r u v : NumberedRest) → OnOk res (v ≡ u) → OnErr res (v ≡ r) → P r → P u → P v
kept_rest (Ok x) P r u v ok err old new = subst P (sym ok) new
kept_rest (Err e) P r u v ok err old new = subst P (sym err) old

pub kept_gives : (res : Result (Unit {0}) ReadtableError) (s : WorldState) (m : Readtables) (said : Result Readtables ReadtableError)
    → AnswersReadtables (λ _. m) res said → IfErr res (λ _. m ≡ s.readtables) → IsSoundWorldState s → ((v : Readtables) → said ≡ Ok v → IsSoundWorldState (record s { readtables = v })) → IsSoundWorldState (record s { readtables = m })
kept_gives (Ok x) s m said gives same old new = new m gives
kept_gives (Err e) s m said gives same old new = subst (λ v. IsSoundWorldState (record s { readtables = v })) (sym same) old

err_ok : {A : Type 0} {e : ReadtableError} {v : A} → ◌≡◌ {A = Result A ReadtableError} (Err e) (Ok v) → ⊥
err_ok {A = A} is = false≢true (subst (λ (r : Result A ReadtableError). IsOk r) (sym is) refl)

ok_same : {A : Type 0} (u v : A) → ◌≡◌ {A = Result A ReadtableError} (Ok u) (Ok v) → u ≡ v
ok_same u v is = cc

-- a name that is not that of the standard readtable
apart_from : (n : Name) → bytes_eq n standard_name ≡ false → n ≡ standard_name → ⊥
apart_from n e is = false≢true (sym e ∙ ap (λ m. bytes_eq m standard_name) is ∙ equal_itself standard_name)

there_too : (m : Readtables) (n : Name) (u : Table) → is_some (finite.get m n) ≡ true → finite.len m ≤ 64 → finite.len (finite.insert m n u) ≤ 64
there_too m n u there count =
    let same : finite.len (finite.insert m n u) ≡ finite.len m = len-insert name_total m n u ∙ ap (λ b. cond b (finite.len m) (finite.len m + 1)) there in
    omega (arith, same, count)

pub sound_changed : (s : WorldState) (n : Name) (change : Table → Result Table ReadtableError) → IsSoundWorldState s
    → ((t u : Table) → HasKeywordFunctions s.packages t → change t ≡ Ok u → HasKeywordFunctions s.packages u)
    → (v : Readtables) → changed_readtable s.readtables n change ≡ Ok v → IsSoundWorldState (record s { readtables = v })
sound_changed s n change sound named v is =
    elim (finite.get s.readtables n) as (λ o. finite.get s.readtables n ≡ o
    → with_writable o ≡ Ok v → IsSoundWorldState (record s { readtables = v })) [
      | None ↦ λ _ e. absurd (err_ok e)
      | Some t ↦ λ there e.
          elim (bytes_eq n standard_name) as (λ b. bytes_eq n standard_name ≡ b → readtables_with_change s.readtables n change (if b then Err StandardReadtable else Ok t) ≡ Ok v → IsSoundWorldState (record s { readtables = v })) [
            | true ↦ λ _ f. absurd (err_ok f)
            | false ↦ λ other f.
                elim (change t) as (λ r. change t ≡ r → put_changed s.readtables n r ≡ Ok v → IsSoundWorldState (record s { readtables = v })) [
                  | Err x ↦ λ _ g. absurd (err_ok g)
                  | Ok u ↦ λ made g.
                      subst (λ w. IsSoundWorldState (record s { readtables = w })) (ok_same (finite.insert s.readtables n u) v g)
                      (sound_table s n u sound (apart_from n other) (sound.readtables.names n (ap is_some there))
                      (there_too s.readtables n u (ap is_some there) sound.readtables.count)
                      (named t u (sound.readtables.each n t there) made))
                ] refl f
          ] refl e
    ] refl is
  where
    with_writable : Option Table → Result Readtables ReadtableError
    with_writable o = readtables_with_change s.readtables n change (option_map_or (λ t. if bytes_eq n standard_name then Err StandardReadtable else Ok t) o (Err NoReadtable))

-- ---- the readtables after each change
pub named_case : (t : packages.Table) (letters : Case) (r u : Table) → HasKeywordFunctions t r → ◌≡◌ {A = Result Table ReadtableError} (Ok (record r { letters = letters })) (Ok u) → HasKeywordFunctions t u
named_case t letters r u named is = subst (HasKeywordFunctions t) (ok_same (record r { letters = letters }) u is) (record {
  readtable = record { count = named.readtable.count; each = named.readtable.each };
  functions = named.functions;
})

pub named_macro : (t : packages.Table) (c : ℕ) (f : Name) (b : Bool) (r u : Table) → c < 128 → IsFalse (is_dispatch_name f) → IsTrue (is_function_name f) → IsSymbol t (keyword, f)
    → HasKeywordFunctions t r → ◌≡◌ {A = Result Table ReadtableError} (Ok (with_character_entry r c (macro_entry f b))) (Ok u) → HasKeywordFunctions t u
named_macro t c f b r u below other fits at_home named is = subst (HasKeywordFunctions t) (ok_same (with_character_entry r c (macro_entry f b)) u is) (record {
  readtable = readtable_sound.kept r c (macro_entry f b) below named.readtable (readtable_sound.macro_sound f b other fits);
  functions = named_after (is_symbol t keyword) r c (macro_entry f b) named.functions (and_from (is_symbol t keyword f) true (symbol_from t keyword f at_home) refl);
})

pub named_dispatching : (t : packages.Table) (c : ℕ) (b : Bool) (r u : Table) → c < 128 → IsSymbol t (keyword, dispatch_name)
    → HasKeywordFunctions t r → ◌≡◌ {A = Result Table ReadtableError} (Ok (with_character_entry r c (dispatching_entry b))) (Ok u) → HasKeywordFunctions t u
named_dispatching t c b r u below at_home named is = subst (HasKeywordFunctions t) (ok_same (with_character_entry r c (dispatching_entry b)) u is) (record {
  readtable = readtable_sound.kept r c (dispatching_entry b) below named.readtable (readtable_sound.dispatching_sound b);
  functions = named_after (is_symbol t keyword) r c (dispatching_entry b) named.functions (and_from (is_symbol t keyword dispatch_name) true (symbol_from t keyword dispatch_name at_home) refl);
})

pub named_dispatched : (t : packages.Table) (c sub : ℕ) (f : Name) (r u : Table) → c < 128 → sub < 128 → IsFalse (is_dispatch_name f) → IsTrue (is_function_name f) → IsSymbol t (keyword, f)
    → HasKeywordFunctions t r → with_sub_function r c sub f ≡ Ok u → HasKeywordFunctions t u
named_dispatched t c sub f r u below low other fits at_home named is =
    elim (is_dispatching (entry_at r c)) as (λ b. is_dispatching (entry_at r c) ≡ b → made (if not b then Some NoDispatch else (if is_digit sub then Some Digit else None)) ≡ Ok u → HasKeywordFunctions t u) [
      | false ↦ λ _ e. absurd (err_ok e)
      | true ↦ λ d e.
          elim (is_digit sub) as (λ b. is_digit sub ≡ b → made (if b then Some Digit else None) ≡ Ok u → HasKeywordFunctions t u) [
            | true ↦ λ _ g. absurd (err_ok g)
            | false ↦ λ digit g. subst (HasKeywordFunctions t) (ok_same (with_character_entry r c (with_dispatch_function (entry_at r c) sub f)) u g) (record {
              readtable = readtable_sound.kept r c (with_dispatch_function (entry_at r c) sub f) below named.readtable
                  (readtable_sound.function_sound (entry_at r c) sub f (named.readtable.each c) (readtable_sound.place_of (entry_at r c) sub (named.readtable.each c) d low) digit other fits);
              functions = named_after (is_symbol t keyword) r c (with_dispatch_function (entry_at r c) sub f) named.functions
                  (named_with_function (is_symbol t keyword) (entry_at r c) sub f (named_at (is_symbol t keyword) r c named.functions) (symbol_from t keyword f at_home));
            })
          ] refl e
    ] refl is
  where
    made : Option DispatchRefusal → Result Table ReadtableError
    made o = option_map_or (λ x. Err (readtable_error_of x)) o (Ok (with_character_entry r c (with_dispatch_function (entry_at r c) sub f)))

pub sound_syntax : (s : WorldState) (n : Name) (c : ℕ) (m : Name) (d : ℕ) → IsSoundWorldState s → c < 128 → (v : Readtables) → with_syntax s.readtables n c m d ≡ Ok v → IsSoundWorldState (record s { readtables = v })
sound_syntax s n c m d sound below v is =
    elim (finite.get s.readtables m) as (λ o. finite.get s.readtables m ≡ o → option_map_or (λ z. changed_readtable s.readtables n (λ t. Ok (with_character_entry t c (entry_at z d)))) o (Err NoReadtable) ≡ Ok v → IsSoundWorldState (record s { readtables = v })) [
      | None ↦ λ _ e. absurd (err_ok e)
      | Some z ↦ λ there e.
          let from : HasKeywordFunctions s.packages z = sound.readtables.each m z there in
          sound_changed s n (λ t. Ok (with_character_entry t c (entry_at z d))) sound
          (λ t u named made. subst (HasKeywordFunctions s.packages) (ok_same (with_character_entry t c (entry_at z d)) u made) (record {
            readtable = readtable_sound.kept t c (entry_at z d) below named.readtable (from.readtable.each d);
            functions = named_after (is_symbol s.packages keyword) t c (entry_at z d) named.functions (named_at (is_symbol s.packages keyword) z d from.functions);
          }))
          v e
    ] refl is

-- a new one where there are fewer than 64
one_more : (m : Readtables) (n : Name) (u : Table) → (not (is_some (finite.get m n)) && nat_le 64 (finite.len m)) ≡ false → finite.len m ≤ 64 → finite.len (finite.insert m n u) ≤ 64
one_more m n u free count =
    elim (is_some (finite.get m n)) as (λ b. is_some (finite.get m n) ≡ b → (not b && nat_le 64 (finite.len m)) ≡ false → finite.len (finite.insert m n u) ≤ 64) [
      | true ↦ λ there _. there_too m n u there count
      | false ↦ λ absent low.
          let more : finite.len (finite.insert m n u) ≡ finite.len m + 1 = len-insert name_total m n u ∙ ap (λ b. cond b (finite.len m) (finite.len m + 1)) absent in
          let below : finite.len m < 64 = leb-false 64 (finite.len m) low in
          omega (arith, more, below)
    ] refl free

pub sound_copied : (s : WorldState) (m n : Name) → IsSoundWorldState s → IsSymbol s.packages (keyword, n) → (v : Readtables) → with_copy s.readtables m n ≡ Ok v → IsSoundWorldState (record s { readtables = v })
sound_copied s m n sound at_home v is =
    elim (finite.get s.readtables m) as (λ o. finite.get s.readtables m ≡ o → copied o ≡ Ok v → IsSoundWorldState (record s { readtables = v })) [
      | None ↦ λ _ e. absurd (err_ok e)
      | Some t ↦ λ there e.
          elim (bytes_eq n standard_name) as (λ b. bytes_eq n standard_name ≡ b → (if b then Err StandardReadtable else (if full then Err Limit else Ok (finite.insert s.readtables n t))) ≡ Ok v → IsSoundWorldState (record s { readtables = v })) [
            | true ↦ λ _ f. absurd (err_ok f)
            | false ↦ λ other f.
                elim full as (λ b. full ≡ b → (if b then Err Limit else Ok (finite.insert s.readtables n t)) ≡ Ok v → IsSoundWorldState (record s { readtables = v })) [
                  | true ↦ λ _ g. absurd (err_ok g)
                  | false ↦ λ free g.
                      subst (λ w. IsSoundWorldState (record s { readtables = w })) (ok_same (finite.insert s.readtables n t) v g)
                      (sound_table s n t sound (apart_from n other) at_home (one_more s.readtables n t free sound.readtables.count) (sound.readtables.each m t there))
                ] refl f
          ] refl e
    ] refl is
  where
    full : Bool
    full = not (finite.contains_key s.readtables n) && nat_le 64 (finite.len s.readtables)

    copied : Option Table → Result Readtables ReadtableError
    copied o = option_map_or (λ t. if bytes_eq n standard_name then Err StandardReadtable else (if full then Err Limit else Ok (finite.insert s.readtables n t))) o (Err NoReadtable)

-- STD-DISPATCH is a keyword of every world
pub dispatch_there : (s : WorldState) → IsSoundWorldState s → IsSymbol s.packages (keyword, dispatch_name)
unfolding keyword_names
dispatch_there s sound = sound.packages.first.keywords dispatch_name refl
