-- Readtables by name: what a write through `get_mut` leaves, what a change gives, and what leads back from it.
use Rattle.std.proofs.Common.{◌≡◌, ◌≢◌, ◌<◌, ℕ, Bool, true, false, cond, Option, None, Some, List, IsSome, Result, Ok, Err, IsOk, is_some, bytes_eq, refl, sym, ap, subst, ◌∙◌}
use Rattle.std.specs.Prelude.{if◌then◌else◌, unwrap_or}
use Rattle.std.specs.Global.{Vec}
use Rattle.std.proofs.lemmas.Bool.{false≢true}
use Rattle.std.specs.Option.{option_map, option_map_or}
use Rattle.std.specs.Map.{lookup, set_value}
use Rattle.std.specs.Ordering.{eq_by_cmp}
use Rattle.std.specs.FinMap as finite
use Rattle.std.specs.FinMap.{same_map, get-insert, get-remove}
use Rattle.lisp_object.proofs.Tree.{insert_same}
use Rattle.readtable_core.specs.Tables.{CharacterEntry, Table}
use Rattle.readtable_core.specs.Changes.{with_character_entry}
use Rattle.readtable_core.proofs.PutBack.{put_back}
use Rattle.package_table.specs.Table.{Name, name_cmp}
use Rattle.package_table.specs.Views.{as_map}
use Rattle.package_table.proofs.Seen.{at, name_of, got_name, written_at}
use Rattle.plist_state.specs.declared.error.ReadtableError.{ReadtableError}
use Rattle.plist_state.specs.declared.error.ReadtableError.TheVariants.{NoReadtable, StandardReadtable, NotDispatching, DigitSubcharacter, Limit, OutOfMemory}
use Rattle.plist_state.specs.declared.note.TableChange.{TableChange}
use Rattle.plist_state.specs.declared.note.TableChange.TheVariants.{Over, Character}
use Rattle.plist_state.specs.declared.note.Note.{Note}
use Rattle.plist_state.specs.declared.note.Note.TheVariants.{Made, Changed}
use Rattle.plist_state.specs.State.{Readtables, standard_name}
use Rattle.plist_state.specs.Views.{NumberedRest}
use Rattle.plist_state.specs.Undoing.{table_before, tables_before, rest_before}
use Rattle.plist_state.specs.Journal.{CanBeUndone, IsTableChange, IsEntryNote, ContinuesJournal}
use Rattle.plist_state.proofs.Notes.{continues_noted, continues_same}
use Rattle.plist_state.specs.Changes.{writable, put_changed, readtables_with_change, changed_readtable, Refused}
use Rattle.plist_state.proofs.Orders.{name_total, name_exact, name_tied, one_name}

-- the note that this was the readtable of this name, or that there was none
abbrev pub was_table : Vec ℕ → Option Table → Note
was_table name before = option_map_or (λ t. Changed name (Over t)) before (Made name)

abbrev pub shown : List (Vec ℕ × Table) → Readtables
shown tables = as_map (λ t. t) tables

pub same_option : {A : Type 0} (o : Option A) → option_map (λ x. x) o ≡ o
same_option None = refl
same_option (Some x) = refl

pub got_table : (n : Name) (tables : List (Vec ℕ × Table)) → finite.get (shown tables) n ≡ lookup (at n) tables
got_table n tables = got_name (λ t. t) n tables ∙ same_option (lookup (at n) tables)

pub no_table : (n : Name) (tables : List (Vec ℕ × Table)) → None ≡ lookup (at n) tables → is_some (finite.get (shown tables) n) ≡ true → ⊥
no_table n tables none there = false≢true (ap is_some (none ∙ sym (got_table n tables)) ∙ there)

module _ (m : Readtables) (n : Name) (w : Table) where
  pub got_put : finite.get (finite.insert m n w) n ≡ Some w
  got_put = get-insert name_total m n w n ∙ ap (λ b. cond b (Some w) (finite.get m n)) (name_tied n)

  -- what was there, put again
  put_again : (t : Table) → finite.get m n ≡ Some t → finite.insert (finite.insert m n w) n t ≡ m
  put_again t there = same_map name_total name_exact _ m (λ q.
      get-insert name_total (finite.insert m n w) n t q ∙ ap (cond (eq_by_cmp name_cmp q n) (Some t)) (get-insert name_total m n w q)
      ∙ elim (eq_by_cmp name_cmp q n) as (λ b. eq_by_cmp name_cmp q n ≡ b → cond b (Some t) (cond b (Some w) (finite.get m q)) ≡ finite.get m q) [
        | true ↦ λ same. sym (ap (finite.get m) (one_name q n same) ∙ there)
        | false ↦ λ _. refl
      ] refl)

  -- what was put where there was nothing, taken out
  taken_out : finite.get m n ≡ None → finite.remove (finite.insert m n w) n ≡ m
  taken_out none = same_map name_total name_exact _ m (λ q.
      get-remove name_total (finite.insert m n w) n q ∙ ap (cond (eq_by_cmp name_cmp q n) None) (get-insert name_total m n w q)
      ∙ elim (eq_by_cmp name_cmp q n) as (λ b. eq_by_cmp name_cmp q n ≡ b → cond b None (cond b (Some w) (finite.get m q)) ≡ finite.get m q) [
        | true ↦ λ same. sym (ap (finite.get m) (one_name q n same) ∙ none)
        | false ↦ λ _. refl
      ] refl)

copied_back : (m : Readtables) (n : Name) (w : Table) (name : Vec ℕ) → name.items ≡ n → (before : Option Table) → before ≡ finite.get m n → (r : NumberedRest)
    → rest_before (was_table name before) (record r { readtables = finite.insert m n w }) ≡ record r { readtables = m }
copied_back m n w name named None is r =
    ap (λ (k : Readtables). record r { readtables = k }) (ap (finite.remove (finite.insert m n w)) named ∙ taken_out m n w (sym is))
copied_back m n w name named (Some t) is r =
    let over : Readtables = finite.insert m n w in
    ap (λ (k : Readtables). record r { readtables = k })
    (ap (λ k. tables_before over k (Over t)) named
    ∙ ap (λ (o : Option Table). option_map_or (λ _. finite.insert over n t) o over) (got_put m n w) ∙ put_again m n w t (sym is))

copied_proper : (name : Vec ℕ) (before : Option Table) → CanBeUndone (was_table name before)
copied_proper name None = tt
copied_proper name (Some t) = tt

-- ---- what is noted leads back to the readtables as they were
module _ (ms ks ns : List (List Note)) (same : ks ≡ ms) (note : Note) (pushed : (t u : NumberedRest) → CanBeUndone note → rest_before note u ≡ t → ContinuesJournal ks t ns u)
    (m later : Readtables) (n : Name) (w : Table) (put : later ≡ finite.insert m n w) (name : Vec ℕ) (named : name.items ≡ n) where
  pub change_noted : (t : Table) → finite.get m n ≡ Some t → (change : TableChange) → IsTableChange change → note ≡ Changed name change → table_before change w ≡ t
      → (r : NumberedRest) → ContinuesJournal ms (record r { readtables = m }) ns (record r { readtables = later })
  change_noted t there change proper is back r =
      let over : Readtables = finite.insert m n w in
      let got : tables_before over n change ≡ finite.insert over n (table_before change w) =
      ap (λ (o : Option Table). option_map_or (λ t. finite.insert over n (table_before change t)) o over) (got_put m n w) in
      let undoes : rest_before (Changed name change) (record r { readtables = later }) ≡ record r { readtables = m } =
      ap (λ (k : Readtables). record r { readtables = k })
      ((λ i. tables_before (put i) (named i) change) ∙ got ∙ ap (finite.insert over n) back ∙ put_again m n w t there) in
      continues_noted ms ks ns note (record r { readtables = m }) (record r { readtables = later }) same pushed (subst CanBeUndone (sym is) proper)
      (ap (λ x. rest_before x (record r { readtables = later })) is ∙ undoes)

  pub copy_noted : (before : Option Table) → before ≡ finite.get m n → note ≡ was_table name before
      → (r : NumberedRest) → ContinuesJournal ms (record r { readtables = m }) ns (record r { readtables = later })
  copy_noted before was is r =
      continues_noted ms ks ns note (record r { readtables = m }) (record r { readtables = later }) same pushed (subst CanBeUndone (sym is) (copied_proper name before))
      (ap (λ x. rest_before x (record r { readtables = later })) is ∙ ap (λ (k : Readtables). rest_before (was_table name before) (record r { readtables = k })) put ∙ copied_back m n w name named before was r)

-- nothing was changed
pub tables_same : (ms ns : List (List Note)) (m later : Readtables) → ns ≡ ms → later ≡ m → (r : NumberedRest) → ContinuesJournal ms (record r { readtables = m }) ns (record r { readtables = later })
tables_same ms ns m later marks is r = continues_same ms ns (record r { readtables = m }) (record r { readtables = later }) marks (ap (λ (k : Readtables). record r { readtables = k }) is)

pub some_of : {A : Type 0} (o : Option A) → is_some o ≡ true → (x : A) × (o ≡ Some x)
some_of None e = absurd (false≢true e)
some_of (Some x) e = (x, refl)

module _ (tables later : List (Vec ℕ × Table)) (n : Name) (t w : Table)
    (there : Some t ≡ lookup (at n) tables)
    (is : later ≡ set_value (at n) tables w) where
  pub put_there : shown later ≡ finite.insert (shown tables) n w
  put_there = ap shown is ∙ written_at (λ t. t) n w tables (subst (λ (o : Option Table). IsSome o) there refl)

  pub same_there : w ≡ t → shown later ≡ shown tables
  same_there e =
      put_there ∙ ap (finite.insert (shown tables) n) e
      ∙ insert_same name_of (λ (t : Table). t) name_cmp name_total name_exact (shown tables) n t (got_table n tables ∙ sym there)

-- a change of a character of a readtable, written through `get_mut` and noted with what was there
pub entry_noted : (ms ks ns : List (List Note)) → ks ≡ ms → (note : Note) → ((t u : NumberedRest) → CanBeUndone note → rest_before note u ≡ t → ContinuesJournal ks t ns u)
    → (tables later : List (Vec ℕ × Table)) (n : Name) (t w : Table) → Some t ≡ lookup (at n) tables → later ≡ set_value (at n) tables w
    → (c : ℕ) (e : CharacterEntry) → c < 128 → IsEntryNote (shown tables) n c note → w ≡ with_character_entry t c e
    → (r : NumberedRest) → ContinuesJournal ms (record r { readtables = shown tables }) ns (record r { readtables = shown later })
entry_noted ms ks ns same note pushed tables later n t w there holds c e below of made r =
    let got : finite.get (shown tables) n ≡ Some t = got_table n tables ∙ sym there in
    let back : with_character_entry w c of.entry ≡ t = (λ i. with_character_entry (made i) c (of.was t got i)) ∙ put_back t c e in
    change_noted ms ks ns same note pushed (shown tables) (shown later) n w (put_there tables later n t w there holds) of.name of.named t got (Character c of.entry) below of.noted back r

-- ---- a change that is taken back
module _ (tables : List (Vec ℕ × Table)) (n : Name) (change : TableChange) where
  pub before_some : (t : Table) → Some t ≡ lookup (at n) tables → tables_before (shown tables) n change ≡ finite.insert (shown tables) n (table_before change t)
  before_some t there = ap (λ (o : Option Table). option_map_or (λ t. finite.insert (shown tables) n (table_before change t)) o (shown tables)) (got_table n tables ∙ sym there)

  pub before_none : None ≡ lookup (at n) tables → tables_before (shown tables) n change ≡ shown tables
  before_none none = ap (λ (o : Option Table). option_map_or (λ t. finite.insert (shown tables) n (table_before change t)) o (shown tables)) (got_table n tables ∙ sym none)

pub writable_there : (m : Readtables) (n : Name) (t : Table) → finite.get m n ≡ Some t → IsOk (writable m n) → writable m n ≡ Ok t
writable_there m n t there ok =
    let is : writable m n ≡ (if bytes_eq n standard_name then Err StandardReadtable else Ok t) =
    ap (λ o. option_map_or (λ t. if bytes_eq n standard_name then Err StandardReadtable else Ok t) o (Err NoReadtable)) there in
    is ∙ chosen (bytes_eq n standard_name) (subst (λ (r : Result Table ReadtableError). IsOk r) is ok)
  where
    chosen : (b : Bool) → IsOk {T = Table} {E = ReadtableError} (if b then Err StandardReadtable else Ok t) → ◌≡◌ {A = Result Table ReadtableError} (if b then Err StandardReadtable else Ok t) (Ok t)
    chosen true e = absurd (false≢true e)
    chosen false e = refl

-- what is not there is not written
pub writable_some : (m : Readtables) (n : Name) → IsOk (writable m n) → is_some (finite.get m n) ≡ true
writable_some m n =
    elim (finite.get m n) as (λ o. IsOk {T = Table} {E = ReadtableError} (option_map_or (λ t. if bytes_eq n standard_name then Err StandardReadtable else Ok t) o (Err NoReadtable)) → is_some o ≡ true) [
      | None ↦ λ e. absurd (false≢true e)
      | Some t ↦ λ _. refl
    ]

-- a refusal that is not of memory is the definition's
pub refused_by : {B : Type 0} (e : ReadtableError) (said : Result B ReadtableError) → said ≡ Err e → e ≢ OutOfMemory → Refused e said
refused_by NoReadtable said is other = is
refused_by StandardReadtable said is other = is
refused_by NotDispatching said is other = is
refused_by DigitSubcharacter said is other = is
refused_by Limit said is other = is
refused_by OutOfMemory said is other = absurd (other refl)

-- a change of what may not be written is refused for that
pub change_refused : (m : Readtables) (n : Name) (change : Table → Result Table ReadtableError) (e : ReadtableError) → (writable m n ≡ Err e) × (e ≢ OutOfMemory) → Refused e (changed_readtable m n change)
change_refused m n change e why = refused_by e (changed_readtable m n change) (ap (readtables_with_change m n change) why.0) why.1

-- a readtable that may be written is there
pub written_there : (tables : List (Vec ℕ × Table)) (n : Name) → None ≡ lookup (at n) tables → IsOk (writable (shown tables) n) → ⊥
written_there tables n none ok = no_table n tables none (writable_some (shown tables) n ok)

module _ (tables later : List (Vec ℕ × Table)) (n : Name) (t w : Table) (change : Table → Result Table ReadtableError)
    (there : Some t ≡ lookup (at n) tables)
    (ok : IsOk (writable (shown tables) n)) where
  may_write : writable (shown tables) n ≡ Ok t
  may_write = writable_there (shown tables) n t (got_table n tables ∙ sym there) ok

  pub changed_there : later ≡ set_value (at n) tables w → change t ≡ Ok w → changed_readtable (shown tables) n change ≡ Ok (shown later)
  changed_there is makes =
      ap (readtables_with_change (shown tables) n change) may_write ∙ ap (put_changed (shown tables) n) makes ∙ ap Ok (sym (put_there tables later n t w there is))

  pub kept_there : (e : ReadtableError) → change t ≡ Err e → changed_readtable (shown tables) n change ≡ Err e
  kept_there e refuses = ap (readtables_with_change (shown tables) n change) may_write ∙ ap (put_changed (shown tables) n) refuses

-- a change that refuses nothing
pub change_ok : (m : Readtables) (n : Name) (change : Table → Table) → IsOk (writable m n) → IsOk (changed_readtable m n (λ t. Ok (change t)))
change_ok m n change ok = done (writable m n) ok
  where
    done : (r : Result Table ReadtableError) → IsOk r → IsOk (readtables_with_change m n (λ t. Ok (change t)) r)
    done (Ok t) e = refl
    done (Err x) e = absurd (false≢true e)

pub same_some : {A : Type 0} {x y : A} → ◌≡◌ {A = Option A} (Some x) (Some y) → x ≡ y
same_some {x = x} e = ap (λ o. unwrap_or o x) e
