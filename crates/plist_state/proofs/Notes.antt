-- The journal: notes and marks that are pushed and popped.
--     all_push, rests_push, length-rests      what one note more, and one mark more, lead back to
--     leads_pop, leads_wider, journal_split, journal_wider      what holds of the way back
--     fits_now      the rows have memory for what they hold
--     same_marks, room_last, had_room, noted      what a write to the newest mark leaves
--     continues_same, continues_noted      nothing was changed, and a change was noted
--     property_noted      the same of a change of a property list
--     popped, leads      the newest mark taken away
--     gone_past, gone_to      the mark that was to be gone back to
use Rattle.std.proofs.Common.{◌≡◌, ◌++◌, ◌-◌, ◌<◌, ◌≤◌, ℕ, suc, None, Some, List, [], ◌∷◌, length, slice_index_or, slice_set, take, refl, sym, ap, ◌∙◌, arith, subst}
use Rattle.std.specs.List.{slice_get}
use Rattle.std.specs.Option.{option_map_or}
use Rattle.std.specs.Global.{Vec}
use Rattle.std.specs.Vec.{vec_len, vec_capacity}
use Rattle.std.proofs.lemmas.List.{length-map, map_push, append_assoc}
pub use Rattle.package_table.proofs.Undoing.{IsLast, at_last, no_more, on_ok, take_seam, get_seam}
use Rattle.plist_state.specs.declared.note.Note.{Note}
use Rattle.plist_state.specs.declared.note.Note.TheVariants.{Property as OfList}
use Rattle.plist_state.specs.declared.note.PropertyChange.{PropertyChange}
use Rattle.property_rows.specs.Rows.{PropertyRow, room}
use Rattle.plist_state.specs.Lists.{NumberedPlist, NumberedLists, plist_of_number, with_row}
use Rattle.plist_state.specs.Views.{Rows, lists_in, plist_of, numbered_property, row_at, room_at, NumberedRest}
use Rattle.plist_state.specs.KeptRows.{IsProperChange, IsWider}
use Rattle.plist_state.specs.Undoing.{list_before, rest_before, all_undone, undone_since, rests_at}
use Rattle.plist_state.specs.Journal.{marks_of, has_room, CanBeUndone, FitsRows, LeadsBack, IsJournal, ContinuesJournal}
use Rattle.plist_state.proofs.ListRows.{row-lists_in, property_back}

-- ---- what is led back to
pub all_push : (ns : List Note) (n : Note) (r : NumberedRest) → all_undone (ns ++ n ∷ []) r ≡ all_undone ns (rest_before n r)
all_push [] n r = refl
all_push (m ∷ ns) n r = ap (rest_before m) (all_push ns n r)

since_push : (ms : List (List Note)) (m : List Note) (r : NumberedRest) → undone_since (ms ++ m ∷ []) r ≡ undone_since ms (all_undone m r)
since_push [] m r = refl
since_push (k ∷ ms) m r = ap (all_undone k) (since_push ms m r)

pub rests_push : (ms : List (List Note)) (m : List Note) (r : NumberedRest) → rests_at (ms ++ m ∷ []) r ≡ rests_at ms (all_undone m r) ++ all_undone m r ∷ []
rests_push [] m r = refl
rests_push (k ∷ ms) m r = λ i. all_undone k (since_push ms m r i) ∷ rests_push ms m r i

pub length-rests : (ms : List (List Note)) (r : NumberedRest) → length (rests_at ms r) ≡ length ms
length-rests [] r = refl
length-rests (m ∷ ms) r = ap (λ k. suc k) (length-rests ms r)

-- ---- what holds of the way back
fits_wider : (r : NumberedRest) (rows later : Rows) → IsWider rows later → FitsRows rows r → FitsRows later r
fits_wider r rows later wider fits x =
    let held : length (plist_of_number r.properties x) ≤ room_at rows x = fits x in
    let more : room_at rows x ≤ room_at later x = wider.rooms x in
    omega (arith, held, more)

leads_push : (ns : List Note) (n : Note) (u : NumberedRest) (rows : Rows) → CanBeUndone n → FitsRows rows (rest_before n u) → LeadsBack ns (rest_before n u) rows → LeadsBack (ns ++ n ∷ []) u rows
leads_push [] n u rows noted fits leads = (noted, fits, tt)
leads_push (m ∷ ns) n u rows noted fits leads =
    (leads.0, subst (FitsRows rows) (sym (ap (rest_before m) (all_push ns n u))) leads.1, leads_push ns n u rows noted fits leads.2)

pub leads_pop : (ns : List Note) (n : Note) (u : NumberedRest) (rows : Rows) → LeadsBack (ns ++ n ∷ []) u rows → CanBeUndone n × FitsRows rows (rest_before n u) × LeadsBack ns (rest_before n u) rows
leads_pop [] n u rows leads = (leads.0, leads.1, tt)
leads_pop (m ∷ ns) n u rows leads =
    let left : CanBeUndone n × FitsRows rows (rest_before n u) × LeadsBack ns (rest_before n u) rows = leads_pop ns n u rows leads.2 in
    (left.0, left.1, (leads.0, subst (FitsRows rows) (ap (rest_before m) (all_push ns n u)) leads.1, left.2))

pub leads_wider : (ns : List Note) (r : NumberedRest) (rows later : Rows) → IsWider rows later → LeadsBack ns r rows → LeadsBack ns r later
leads_wider [] r rows later wider leads = tt
leads_wider (n ∷ ns) r rows later wider leads =
    (leads.0, fits_wider (all_undone (n ∷ ns) r) rows later wider leads.1, leads_wider ns r rows later wider leads.2)

pub journal_put : (ms : List (List Note)) (m : List Note) (r : NumberedRest) (rows : Rows) → LeadsBack m r rows → IsJournal ms (all_undone m r) rows → IsJournal (ms ++ m ∷ []) r rows
journal_put [] m r rows leads journal = (leads, tt)
journal_put (k ∷ ms) m r rows leads journal =
    (subst (λ s. LeadsBack k s rows) (sym (since_push ms m r)) journal.0, journal_put ms m r rows leads journal.1)

pub journal_split : (ms : List (List Note)) (m : List Note) (r : NumberedRest) (rows : Rows) → IsJournal (ms ++ m ∷ []) r rows → LeadsBack m r rows × IsJournal ms (all_undone m r) rows
journal_split [] m r rows journal = (journal.0, tt)
journal_split (k ∷ ms) m r rows journal =
    let left : LeadsBack m r rows × IsJournal ms (all_undone m r) rows = journal_split ms m r rows journal.1 in
    (left.0, (subst (λ s. LeadsBack k s rows) (since_push ms m r) journal.0, left.1))

pub journal_wider : (ms : List (List Note)) (r : NumberedRest) (rows later : Rows) → IsWider rows later → IsJournal ms r rows → IsJournal ms r later
journal_wider [] r rows later wider journal = tt
journal_wider (m ∷ ms) r rows later wider journal =
    (leads_wider m (undone_since ms r) rows later wider journal.0, journal_wider ms r rows later wider journal.1)

row_fits : (row : PropertyRow) → length (plist_of row) ≤ room row
row_fits row = omega (arith, length-map row.items numbered_property)

pub fits_now : (rows : Rows) (r : NumberedRest) → r.properties ≡ lists_in rows → FitsRows rows r
fits_now rows r is x =
    subst (λ ps. length ps ≤ room_at rows x) (sym (ap (λ (m : NumberedLists). plist_of_number m x) is ∙ row-lists_in rows x))
    (elim (row_at rows x) as (λ o. length (option_map_or plist_of o []) ≤ option_map_or room o 0) [
      | None ↦ omega arith
      | Some row ↦ row_fits row
    ])

-- ---- the newest mark
room_at_end : (ms : List (Vec Note)) (m : Vec Note) → vec_len m < vec_capacity m → has_room (ms ++ m ∷ [])
room_at_end [] m room = room
room_at_end (n ∷ []) m room = room
room_at_end (n ∷ o ∷ ms) m room = room_at_end (o ∷ ms) m room

room_of_end : (ms : List (Vec Note)) (m : Vec Note) → has_room (ms ++ m ∷ []) → vec_len m < vec_capacity m
room_of_end [] m room = room
room_of_end (n ∷ []) m room = room
room_of_end (n ∷ o ∷ ms) m room = room_of_end (o ∷ ms) m room

abbrev pub notes_of : Vec Note → List Note
notes_of m = m.items

pub continues_same : (ms ns : List (List Note)) (t u : NumberedRest) → ns ≡ ms → u ≡ t → ContinuesJournal ms t ns u
continues_same ms ns t u marks rest = record {
  same = λ i. rests_at (marks i) (rest i);
  journal = λ rows _ journal. subst (λ r. IsJournal ns r rows) (sym rest) (subst (λ ks. IsJournal ks t rows) (sym marks) journal);
}

-- a note that was pushed where room for it was made
pub continues_noted : (ms ks ns : List (List Note)) (note : Note) (t u : NumberedRest) → ks ≡ ms → ((t u : NumberedRest) → CanBeUndone note → rest_before note u ≡ t → ContinuesJournal ks t ns u) → CanBeUndone note → rest_before note u ≡ t → ContinuesJournal ms t ns u
continues_noted ms ks ns note t u same pushed proper undoes = subst (λ k. ContinuesJournal k t ns u) same (pushed t u proper undoes)

-- the same of a change of the property list of a number
pub property_noted : (ms ks ns : List (List Note)) → ks ≡ ms → (x : ℕ) (change : PropertyChange)
    → ((t u : NumberedRest) → CanBeUndone (OfList x change) → rest_before (OfList x change) u ≡ t → ContinuesJournal ks t ns u) → IsProperChange change
    → (t : NumberedRest) (rows later : Rows) (ps : NumberedPlist)
    → lists_in later ≡ with_row (lists_in rows) x ps → list_before change (plist_of_number (lists_in later) x) ≡ plist_of_number (lists_in rows) x
    → ContinuesJournal ms (record t { properties = lists_in rows }) ns (record t { properties = lists_in later })
property_noted ms ks ns same x change pushed proper t rows later ps put back =
    continues_noted ms ks ns (OfList x change) (record t { properties = lists_in rows }) (record t { properties = lists_in later }) same pushed proper
    (ap (λ (m : NumberedLists). record t { properties = m }) (property_back rows later x ps change put back))

-- one note more under the newest mark
continues_push : (ms : List (List Note)) (m : List Note) (n : Note) (t u : NumberedRest) → CanBeUndone n → rest_before n u ≡ t → ContinuesJournal (ms ++ m ∷ []) t (ms ++ (m ++ n ∷ []) ∷ []) u
continues_push ms m n t u noted undoes =
    let back : all_undone (m ++ n ∷ []) u ≡ all_undone m t = all_push m n u ∙ ap (all_undone m) undoes in
    record {
      same = rests_push ms (m ++ n ∷ []) u ∙ (λ i. rests_at ms (back i) ++ back i ∷ []) ∙ sym (rests_push ms m t);
      journal = λ rows fits journal.
          let left : LeadsBack m t rows × IsJournal ms (all_undone m t) rows = journal_split ms m t rows journal in
          journal_put ms (m ++ n ∷ []) u rows
          (leads_push m n u rows noted (subst (FitsRows rows) (sym undoes) fits) (subst (λ r. LeadsBack m r rows) (sym undoes) left.0))
          (subst (λ r. IsJournal ms r rows) (sym back) left.1);
    }

-- the newest mark, and what is written in its place
module _ (ms : List (Vec Note)) (n : ℕ) (m w : Vec Note) (is_length : length ms ≡ n) (some : 0 < n) (newest : m ≡ slice_index_or ms (n - 1) m) where
  last : IsLast ms (n - 1) m
  last = subst (λ k. IsLast ms (k - 1) m) is_length (at_last ms m (subst (λ k. 0 < k) (sym is_length) some) (newest ∙ ap (λ k. slice_index_or ms (k - 1) m) (sym is_length)))

  marks_before : marks_of ms ≡ marks_of last.0 ++ m.items ∷ []
  marks_before = ap marks_of last.1 ∙ map_push notes_of last.0 m

  marks_after : marks_of (slice_set ms (n - 1) w) ≡ marks_of last.0 ++ w.items ∷ []
  marks_after = ap marks_of (last.2 w) ∙ map_push notes_of last.0 w

  pub same_marks : w.items ≡ m.items → marks_of (slice_set ms (n - 1) w) ≡ marks_of ms
  same_marks same = marks_after ∙ ap (λ x. marks_of last.0 ++ x ∷ []) same ∙ sym marks_before

  pub room_last : vec_len w < vec_capacity w → has_room (slice_set ms (n - 1) w)
  room_last room = subst has_room (sym (last.2 w)) (room_at_end last.0 w room)

  pub had_room : has_room ms → vec_len m < vec_capacity m
  had_room room = room_of_end last.0 m (subst has_room last.1 room)

  pub noted : (note : Note) → w.items ≡ m.items ++ note ∷ [] → (t u : NumberedRest) → CanBeUndone note → rest_before note u ≡ t → ContinuesJournal (marks_of ms) t (marks_of (slice_set ms (n - 1) w)) u
  noted note is t u proper undoes =
      subst (λ ks. ContinuesJournal ks t (marks_of (slice_set ms (n - 1) w)) u) (sym marks_before)
      (subst (λ ks. ContinuesJournal (marks_of last.0 ++ m.items ∷ []) t ks u) (sym (marks_after ∙ ap (λ x. marks_of last.0 ++ x ∷ []) is))
      (continues_push (marks_of last.0) m.items note t u proper undoes))

-- ---- the newest mark taken away
module _ (before : List (Vec Note)) (m : Vec Note) (ms : List (Vec Note)) (split : ms ≡ before ++ m ∷ []) (t u : NumberedRest) (undoes : u ≡ all_undone m.items t) where
  marks_split : marks_of ms ≡ marks_of before ++ m.items ∷ []
  marks_split = ap marks_of split ∙ map_push notes_of before m

  pub popped : (all rest : List NumberedRest) → all ≡ rests_at (marks_of ms) t ++ rest → all ≡ rests_at (marks_of before) u ++ u ∷ rest
  popped all rest is =
      is ∙ ap (λ xs. xs ++ rest) (ap (λ ks. rests_at ks t) marks_split ∙ rests_push (marks_of before) m.items t ∙ (λ i. rests_at (marks_of before) (sym undoes i) ++ sym undoes i ∷ []))
      ∙ append_assoc (rests_at (marks_of before) u) (u ∷ []) rest

  -- what is undone, and what is left of the journal
  pub leads : (rows : Rows) → IsJournal (marks_of ms) t rows → LeadsBack m.items t rows × IsJournal (marks_of before) u rows
  leads rows journal =
      let left : LeadsBack m.items t rows × IsJournal (marks_of before) (all_undone m.items t) rows = journal_split (marks_of before) m.items t rows (subst (λ ks. IsJournal ks t rows) marks_split journal) in
      (left.0, subst (λ r. IsJournal (marks_of before) r rows) (sym undoes) left.1)

module _ (before : List (List Note)) (u : NumberedRest) (all rest : List NumberedRest) (mark : ℕ) (is : all ≡ rests_at before u ++ u ∷ rest) (here : length before ≡ mark) where
  index_is : length (rests_at before u) ≡ mark
  index_is = length-rests before u ∙ here

  past_marks : rests_at before u ≡ take mark all
  past_marks = sym (ap (λ k. take k all) (sym index_is) ∙ ap (take (length (rests_at before u))) is ∙ take_seam (rests_at before u) (u ∷ rest))

  at_mark : slice_get all mark ≡ Some u
  at_mark = ap (slice_get all) (sym index_is) ∙ ap (λ xs. slice_get xs (length (rests_at before u))) is ∙ get_seam (rests_at before u) u rest

-- the mark that was to be gone back to
module _ (before : List (Vec Note)) (m : Vec Note) (ms : List (Vec Note)) (split : ms ≡ before ++ m ∷ []) (t u : NumberedRest) (undoes : u ≡ all_undone m.items t)
    (all rest : List NumberedRest) (is : all ≡ rests_at (marks_of ms) t ++ rest) (mark : ℕ) (here : length before ≡ mark) where
  pub gone_past : rests_at (marks_of before) u ≡ take mark all
  gone_past = past_marks (marks_of before) u all rest mark (popped before m ms split t u undoes all rest is) (length-map before notes_of ∙ here)

  pub gone_to : slice_get all mark ≡ Some u
  gone_to = at_mark (marks_of before) u all rest mark (popped before m ms split t u undoes all rest is) (length-map before notes_of ∙ here)
