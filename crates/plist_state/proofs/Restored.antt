-- A change of a readtable that needs no note, since one under the newest mark restores the readtable.
--     insert_apart, remove_apart, remove_over      a readtable that is put beside another, and one that is taken out again
--     DiffersAt      all is the same but the readtable of a name
--     still_differs, restored      a note leaves it so, or restores the readtable
--     back_the_same      the notes of a mark lead back to the same
--     none_wanted, copied_over      no note is wanted
use Rattle.std.proofs.Common.{◌≡◌, ◌≢◌, ℕ, zero, suc, ◌≤◌, Bool, true, false, cond, ◌||◌, Option, None, Some, List, [], ◌∷◌, ◌++◌, ◌-◌, length, take, drop, slice_range, is_some, bytes_eq, refl, sym, ap, subst, ◌∙◌, arith}
use Rattle.std.proofs.lemmas.Bool.{false≢true}
use Rattle.std.specs.List.{list_any, slice_get}
use Rattle.std.specs.Option.{option_map_or}
use Rattle.std.specs.Ordering.{eq_by_cmp}
use Rattle.std.specs.Global.{Vec}
use Rattle.std.specs.FinMap as finite
use Rattle.std.specs.FinMap.{same_map, get-insert, get-remove}
use Rattle.std.proofs.lemmas.List.{map_push}
use Rattle.readtable_core.specs.Tables.{Table}
use Rattle.package_table.specs.Table.{Name, name_cmp}
use Rattle.package_table.proofs.Frames.{not_same, equal_names, unequal_names}
use Rattle.package_table.proofs.Puts.{insert_twice}
use Rattle.plist_state.specs.declared.note.TableChange.{TableChange}
use Rattle.plist_state.specs.declared.note.TableChange.TheVariants.{Over, Letters, Character}
use Rattle.plist_state.specs.declared.note.Note.{Note}
use Rattle.plist_state.specs.declared.note.Note.TheVariants.{Property, Made, Changed, InPackage, InReadtable, InBase}
use Rattle.plist_state.specs.State.{Readtables}
use Rattle.plist_state.specs.Lists.{NumberedLists, plist_of_number, with_row}
use Rattle.plist_state.specs.Views.{Rows, room_at, NumberedRest}
use Rattle.plist_state.specs.Undoing.{list_before, table_before, tables_before, rest_before, all_undone, rests_at, restores}
use Rattle.plist_state.specs.Journal.{marks_of, FitsRows, LeadsBack, IsJournal, ContinuesJournal, ContinuesTables}
use Rattle.plist_state.proofs.Orders.{name_total, name_exact, one_name}
use Rattle.plist_state.proofs.Notes.{rests_push, journal_split, journal_put}
use Rattle.plist_state.proofs.ByName.{got_put, some_of, same_some}

-- ---- readtables by name
choose_apart : {A : Type 0} (a b : Bool) (x y o : Option A) → (a ≡ true → b ≡ true → ⊥) → cond a x (cond b y o) ≡ cond b y (cond a x o)
choose_apart true true x y o apart = absurd (apart refl refl)
choose_apart true false x y o apart = refl
choose_apart false b x y o apart = refl

choose_again : {A : Type 0} (b : Bool) (x o : Option A) → cond b None (cond b x o) ≡ cond b None o
choose_again true x o = refl
choose_again false x o = refl

module _ (m : Readtables) (n : Name) (t : Table) where
  never_both : (q : Name) → q ≢ n → (x : Name) → eq_by_cmp name_cmp x q ≡ true → eq_by_cmp name_cmp x n ≡ true → ⊥
  never_both q apart x a b = apart (sym (one_name x q a) ∙ one_name x n b)

  insert_apart : (q : Name) (s : Table) → q ≢ n → finite.insert (finite.insert m n t) q s ≡ finite.insert (finite.insert m q s) n t
  insert_apart q s apart = same_map name_total name_exact (finite.insert (finite.insert m n t) q s) (finite.insert (finite.insert m q s) n t) (λ x.
      get-insert name_total (finite.insert m n t) q s x ∙ ap (cond (eq_by_cmp name_cmp x q) (Some s)) (get-insert name_total m n t x)
      ∙ choose_apart (eq_by_cmp name_cmp x q) (eq_by_cmp name_cmp x n) (Some s) (Some t) (finite.get m x) (never_both q apart x)
      ∙ sym (get-insert name_total (finite.insert m q s) n t x ∙ ap (cond (eq_by_cmp name_cmp x n) (Some t)) (get-insert name_total m q s x)))

  remove_apart : (q : Name) → q ≢ n → finite.remove (finite.insert m n t) q ≡ finite.insert (finite.remove m q) n t
  remove_apart q apart = same_map name_total name_exact (finite.remove (finite.insert m n t) q) (finite.insert (finite.remove m q) n t) (λ x.
      get-remove name_total (finite.insert m n t) q x ∙ ap (cond (eq_by_cmp name_cmp x q) None) (get-insert name_total m n t x)
      ∙ choose_apart (eq_by_cmp name_cmp x q) (eq_by_cmp name_cmp x n) None (Some t) (finite.get m x) (never_both q apart x)
      ∙ sym (get-insert name_total (finite.remove m q) n t x ∙ ap (cond (eq_by_cmp name_cmp x n) (Some t)) (get-remove name_total m q x)))

  remove_over : finite.remove (finite.insert m n t) n ≡ finite.remove m n
  remove_over = same_map name_total name_exact (finite.remove (finite.insert m n t) n) (finite.remove m n) (λ x.
      get-remove name_total (finite.insert m n t) n x ∙ ap (cond (eq_by_cmp name_cmp x n) None) (get-insert name_total m n t x)
      ∙ choose_again (eq_by_cmp name_cmp x n) (Some t) (finite.get m x)
      ∙ sym (get-remove name_total m n x))

-- another name is there as before
still_put : (m : Readtables) (n q : Name) (s : Table) → q ≢ n → finite.get (finite.insert m q s) n ≡ finite.get m n
still_put m n q s apart = get-insert name_total m q s n ∙ ap (λ b. cond b (Some s) (finite.get m n)) (not_same n q (λ e. apart (sym e)))

still_removed : (m : Readtables) (n q : Name) → q ≢ n → finite.get (finite.remove m q) n ≡ finite.get m n
still_removed m n q apart = get-remove name_total m q n ∙ ap (λ b. cond b None (finite.get m n)) (not_same n q (λ e. apart (sym e)))

-- a change taken back where the readtable of the name is this one
before_of : (m : Readtables) (q : Name) (change : TableChange) (o : Option Table) → finite.get m q ≡ o
    → tables_before m q change ≡ option_map_or (λ t. finite.insert m q (table_before change t)) o m
before_of m q change o is = ap (λ (o : Option Table). option_map_or (λ t. finite.insert m q (table_before change t)) o m) is

module _ (m : Readtables) (n : Name) (t : Table) (change : TableChange) where
  before_apart : (q : Name) → q ≢ n → tables_before (finite.insert m n t) q change ≡ finite.insert (tables_before m q change) n t
  before_apart q apart =
      elim (finite.get m q) as (λ o. finite.get m q ≡ o → tables_before (finite.insert m n t) q change ≡ finite.insert (tables_before m q change) n t) [
        | None ↦ λ is.
            before_of (finite.insert m n t) q change None (still_put m q n t (λ e. apart (sym e)) ∙ is)
            ∙ sym (ap (λ k. finite.insert k n t) (before_of m q change None is))
        | Some s ↦ λ is.
            before_of (finite.insert m n t) q change (Some s) (still_put m q n t (λ e. apart (sym e)) ∙ is)
            ∙ insert_apart m n t q (table_before change s) apart
            ∙ sym (ap (λ k. finite.insert k n t) (before_of m q change (Some s) is))
      ] refl

  before_there : (q : Name) → q ≢ n → is_some (finite.get (tables_before m q change) n) ≡ is_some (finite.get m n)
  before_there q apart =
      elim (finite.get m q) as (λ o. finite.get m q ≡ o → is_some (finite.get (tables_before m q change) n) ≡ is_some (finite.get m n)) [
        | None ↦ λ is. ap (λ k. is_some (finite.get k n)) (before_of m q change None is)
        | Some s ↦ λ is.
            ap (λ k. is_some (finite.get k n)) (before_of m q change (Some s) is)
            ∙ ap is_some (still_put m n q (table_before change s) apart)
      ] refl

  before_new : tables_before (finite.insert m n t) n change ≡ finite.insert m n (table_before change t)
  before_new = before_of (finite.insert m n t) n change (Some t) (got_put m n t) ∙ insert_twice m n t (table_before change t)

  before_old : is_some (finite.get m n) ≡ true → (s : Table) × (tables_before m n change ≡ finite.insert m n (table_before change s))
  before_old there =
      let had : (s : Table) × (finite.get m n ≡ Some s) = some_of (finite.get m n) there in
      (had.0, before_of m n change (Some had.0) had.1)

-- ---- all is the same but the readtable of this name, which is there
record DiffersAt (n : Name) (a b : NumberedRest) : Type 0 where
  table : Table
  rest : b ≡ record a { readtables = finite.insert a.readtables n table }
  there : is_some (finite.get a.readtables n) ≡ true

-- the same after a note that changes the readtable of another name
differs_apart : (n : Name) (name : Vec ℕ) (change : TableChange) (a b : NumberedRest) → DiffersAt n a b → name.items ≢ n
    → DiffersAt n (rest_before (Changed name change) a) (rest_before (Changed name change) b)
differs_apart n name change a b d apart = record {
  table = d.table;
  rest = ap (rest_before (Changed name change)) d.rest ∙ ap (λ (k : Readtables). record a { readtables = k }) (before_apart a.readtables n d.table change name.items apart);
  there = before_there a.readtables n d.table change name.items apart ∙ d.there;
}

-- and after one that changes this readtable
differs_within : (n : Name) (name : Vec ℕ) (change : TableChange) (a b : NumberedRest) → DiffersAt n a b → name.items ≡ n
    → DiffersAt n (rest_before (Changed name change) a) (rest_before (Changed name change) b)
differs_within n name change a b d named =
    let m : Readtables = a.readtables in
    let old : (s : Table) × (tables_before m n change ≡ finite.insert m n (table_before change s)) = before_old m n d.table change d.there in
    let was : tables_before m name.items change ≡ finite.insert m n (table_before change old.0) = ap (λ q. tables_before m q change) named ∙ old.1 in
    record {
      table = table_before change d.table;
      rest =
          ap (rest_before (Changed name change)) d.rest
          ∙ ap (λ (k : Readtables). record a { readtables = k })
          (ap (λ q. tables_before (finite.insert m n d.table) q change) named ∙ before_new m n d.table change
          ∙ sym (ap (λ k. finite.insert k n (table_before change d.table)) was ∙ insert_twice m n (table_before change old.0) (table_before change d.table)));
      there = ap (λ k. is_some (finite.get k n)) was ∙ ap is_some (got_put m n (table_before change old.0));
    }

differs_changed : (n : Name) (name : Vec ℕ) (change : TableChange) (a b : NumberedRest) → DiffersAt n a b
    → DiffersAt n (rest_before (Changed name change) a) (rest_before (Changed name change) b)
differs_changed n name change a b d =
    elim (bytes_eq name.items n) as (λ e. bytes_eq name.items n ≡ e → DiffersAt n (rest_before (Changed name change) a) (rest_before (Changed name change) b)) [
      | true ↦ λ same. differs_within n name change a b d (equal_names name.items n same)
      | false ↦ λ other. differs_apart n name change a b d (unequal_names name.items n other)
    ] refl

still_differs : (n : Name) (k : Note) (a b : NumberedRest) → DiffersAt n a b → restores n k ≡ false → DiffersAt n (rest_before k a) (rest_before k b)
still_differs n (Property x change) a b d other = record { table = d.table; rest = ap (rest_before (Property x change)) d.rest; there = d.there }
still_differs n (Made name) a b d other = record {
  table = d.table;
  rest = ap (rest_before (Made name)) d.rest ∙ ap (λ (k : Readtables). record a { readtables = k }) (remove_apart a.readtables n d.table name.items (unequal_names name.items n other));
  there = ap is_some (still_removed a.readtables n name.items (unequal_names name.items n other)) ∙ d.there;
}
still_differs n (Changed name change) a b d other = differs_changed n name change a b d
still_differs n (InPackage name) a b d other = record { table = d.table; rest = ap (rest_before (InPackage name)) d.rest; there = d.there }
still_differs n (InReadtable name) a b d other = record { table = d.table; rest = ap (rest_before (InReadtable name)) d.rest; there = d.there }
still_differs n (InBase base) a b d other = record { table = d.table; rest = ap (rest_before (InBase base)) d.rest; there = d.there }

restored : (n : Name) (k : Note) (a b : NumberedRest) → DiffersAt n a b → restores n k ≡ true → rest_before k b ≡ rest_before k a
restored n (Property x change) a b d e = absurd (false≢true e)
restored n (Made name) a b d e =
    let named : name.items ≡ n = equal_names name.items n e in
    ap (rest_before (Made name)) d.rest
    ∙ ap (λ (k : Readtables). record a { readtables = k })
    (ap (finite.remove (finite.insert a.readtables n d.table)) named ∙ remove_over a.readtables n d.table ∙ sym (ap (finite.remove a.readtables) named))
restored n (Changed name (Over before)) a b d e =
    let named : name.items ≡ n = equal_names name.items n e in
    let m : Readtables = a.readtables in
    ap (rest_before (Changed name (Over before))) d.rest
    ∙ ap (λ (k : Readtables). record a { readtables = k })
    (ap (λ q. tables_before (finite.insert m n d.table) q (Over before)) named ∙ before_new m n d.table (Over before)
    ∙ sym (ap (λ q. tables_before m q (Over before)) named ∙ (before_old m n d.table (Over before) d.there).1))
restored n (Changed name (Letters letters)) a b d e = absurd (false≢true e)
restored n (Changed name (Character c entry)) a b d e = absurd (false≢true e)
restored n (InPackage name) a b d e = absurd (false≢true e)
restored n (InReadtable name) a b d e = absurd (false≢true e)
restored n (InBase base) a b d e = absurd (false≢true e)

all_differs : (n : Name) (ns : List Note) (a b : NumberedRest) → DiffersAt n a b → list_any (restores n) ns ≡ false → DiffersAt n (all_undone ns a) (all_undone ns b)
all_differs n [] a b d none = d
all_differs n (k ∷ ns) a b d none =
    elim (restores n k) as (λ e. restores n k ≡ e → e || list_any (restores n) ns ≡ false → DiffersAt n (rest_before k (all_undone ns a)) (rest_before k (all_undone ns b))) [
      | true ↦ λ _ no. absurd (false≢true (sym no))
      | false ↦ λ other no. still_differs n k (all_undone ns a) (all_undone ns b) (all_differs n ns a b d no) other
    ] refl none

all_restored : (n : Name) (ns : List Note) (a b : NumberedRest) → DiffersAt n a b → list_any (restores n) ns ≡ true → all_undone ns b ≡ all_undone ns a
all_restored n [] a b d some = absurd (false≢true some)
all_restored n (k ∷ ns) a b d some =
    elim (list_any (restores n) ns) as (λ e. list_any (restores n) ns ≡ e → restores n k || e ≡ true → rest_before k (all_undone ns b) ≡ rest_before k (all_undone ns a)) [
      | true ↦ λ later _. ap (rest_before k) (all_restored n ns a b d later)
      | false ↦ λ none here. restored n k (all_undone ns a) (all_undone ns b) (all_differs n ns a b d none) (first_one (restores n k) here)
    ] refl some
  where
    first_one : (e : Bool) → e || false ≡ true → e ≡ true
    first_one true is = refl
    first_one false is = is

-- ---- the rows that there is memory for
list_undone : (k : Note) (t u : NumberedRest) → u.properties ≡ t.properties → (rest_before k u).properties ≡ (rest_before k t).properties
list_undone (Property x change) t u same = ap (λ (m : NumberedLists). with_row m x (list_before change (plist_of_number m x))) same
list_undone (Made name) t u same = same
list_undone (Changed name change) t u same = same
list_undone (InPackage name) t u same = same
list_undone (InReadtable name) t u same = same
list_undone (InBase base) t u same = same

lists_undone : (ns : List Note) (t u : NumberedRest) → u.properties ≡ t.properties → (all_undone ns u).properties ≡ (all_undone ns t).properties
lists_undone [] t u same = same
lists_undone (k ∷ ns) t u same = list_undone k (all_undone ns t) (all_undone ns u) (lists_undone ns t u same)

leads_same : (ns : List Note) (t u : NumberedRest) (rows : Rows) → u.properties ≡ t.properties → LeadsBack ns t rows → LeadsBack ns u rows
leads_same [] t u rows same leads = tt
leads_same (k ∷ ns) t u rows same leads =
    let fits : FitsRows rows (all_undone (k ∷ ns) u) = λ x. subst (λ (m : NumberedLists). length (plist_of_number m x) ≤ room_at rows x) (sym (lists_undone (k ∷ ns) t u same)) (leads.1 x) in
    (leads.0, fits, leads_same ns t u rows same leads.2)

-- ---- no note is wanted
not_noted : (ms : List (List Note)) (ns : List Note) (n : Name) → list_any (restores n) ns ≡ true → (t u : NumberedRest) → DiffersAt n t u → u.properties ≡ t.properties
    → ContinuesJournal (ms ++ ns ∷ []) t (ms ++ ns ∷ []) u
not_noted ms ns n some t u d same =
    let back : all_undone ns u ≡ all_undone ns t = all_restored n ns t u d some in
    record {
      same = rests_push ms ns u ∙ (λ i. rests_at ms (back i) ++ back i ∷ []) ∙ sym (rests_push ms ns t);
      journal = λ rows fits journal.
          let left : LeadsBack ns t rows × IsJournal ms (all_undone ns t) rows = journal_split ms ns t rows journal in
          journal_put ms ns u rows (leads_same ns t u rows same left.0) (subst (λ r. IsJournal ms r rows) (sym back) left.1);
    }

any_later : {A : Type 0} (test : A → Bool) (k : ℕ) (xs : List A) → list_any test (drop k xs) ≡ true → list_any test xs ≡ true
any_later test zero xs some = some
any_later test (suc k) [] some = some
any_later test (suc k) (x ∷ xs) some =
    elim (test x) as (λ e. e || list_any test xs ≡ true) [ true ↦ refl | false ↦ any_later test k xs some ]

any_taken : {A : Type 0} (test : A → Bool) (k : ℕ) (xs : List A) → list_any test (take k xs) ≡ true → list_any test xs ≡ true
any_taken test zero xs some = absurd (false≢true some)
any_taken test (suc k) [] some = some
any_taken test (suc k) (x ∷ xs) some =
    elim (test x) as (λ e. e || list_any test (take k xs) ≡ true → e || list_any test xs ≡ true) [ true ↦ λ _. refl | false ↦ λ rest. any_taken test k xs rest ] some

pub any_within : {A : Type 0} (test : A → Bool) (a b : ℕ) (xs : List A) → list_any test (slice_range xs a b) ≡ true → list_any test xs ≡ true
any_within test a b xs some = any_later test a xs (any_taken test (b - a) (drop a xs) some)

pub ends_with : {A : Type 0} (xs : List A) (x : A) → Some x ≡ slice_get xs (length xs - 1) → (before : List A) × (xs ≡ before ++ x ∷ [])
ends_with [] x is = absurd (cc)
ends_with (y ∷ []) x is = ([], ap (λ z. z ∷ []) (same_some (sym is)))
ends_with {A} (y ∷ z ∷ zs) x is =
    let one : length (y ∷ z ∷ zs) - 1 ≡ suc (length (z ∷ zs) - 1) = omega arith in
    let later : (before : List A) × (z ∷ zs ≡ before ++ x ∷ []) = ends_with (z ∷ zs) x (is ∙ ap (slice_get (y ∷ z ∷ zs)) one) in
    (y ∷ later.0, ap (λ ys. y ∷ ys) later.1)

-- the marks of which the newest has such a note
pub none_wanted : (ms : List (Vec Note)) (newest : Vec Note) → Some newest ≡ slice_get ms (length ms - 1) → (n : Name) → list_any (restores n) newest.items ≡ true
    → (m : Readtables) (t : Table) → is_some (finite.get m n) ≡ true → (r : NumberedRest)
    → ContinuesJournal (marks_of ms) (record r { readtables = m }) (marks_of ms) (record r { readtables = finite.insert m n t })
none_wanted ms newest is n some m t there r =
    let split : (before : List (Vec Note)) × (ms ≡ before ++ newest ∷ []) = ends_with ms newest is in
    let marks : marks_of ms ≡ marks_of split.0 ++ newest.items ∷ [] = ap marks_of split.1 ∙ map_push (λ (v : Vec Note). v.items) split.0 newest in
    subst (λ ks. ContinuesJournal ks (record r { readtables = m }) ks (record r { readtables = finite.insert m n t })) (sym marks)
    (not_noted (marks_of split.0) newest.items n some (record r { readtables = m }) (record r { readtables = finite.insert m n t })
    (record { table = t; rest = refl; there = there }) refl)

-- the same of marks that were given room, and of what a call made of the readtables
pub copied_over : (ms ks : List (List Note)) → ks ≡ ms → (m later : Readtables) (n : Name) (w : Table) → later ≡ finite.insert m n w
    → ContinuesTables ks m ks (finite.insert m n w) → ContinuesTables ms m ks later
copied_over ms ks same m later n w put holds r =
    subst (λ k. ContinuesJournal k (record r { readtables = m }) ks (record r { readtables = later })) same
    (subst (λ (l : Readtables). ContinuesJournal ks (record r { readtables = m }) ks (record r { readtables = l })) (sym put) (holds r))
