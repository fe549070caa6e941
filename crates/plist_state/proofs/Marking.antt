-- Marked states: the packages and the rest at each mark, one beside the other.
--     length_marked, marked_push, marked_take, marked_get      as many, one more, the first ones, one of them
--     world_same, refused_same      a world that was left as it was
--     kept_none, kept_continued, kept_push, kept_back      what is kept of the marks
--     nothing_since      the newest mark, since which nothing was noted
--     state_at, sound_at, owned_at, gone_back      the state that is gone back to, and the whole world
use Rattle.std.proofs.Common.{◌≡◌, ℕ, zero, suc, ◌+◌, ◌-◌, Some, List, [], ◌∷◌, ◌++◌, length, take, Result, Ok, Err, refl, sym, ap, subst, ◌∙◌, arith}
use Rattle.std.specs.Prelude.{All, IfErr}
use Rattle.std.specs.List.{slice_get}
use Rattle.std.proofs.lemmas.Option.{slice_get_within, get_or_from_slice_get}
use Rattle.std.specs.Global.{Vec}
use Rattle.std.proofs.lemmas.List.{length-map, length_push, map_push}
use Rattle.std.proofs.lemmas.List.Elements.{All-nil, All-push, All-take}
use Rattle.package_table.specs.Numbers.{Numbered, Tables, table_now}
use Rattle.plist_state.specs.declared.note.Note.{Note}
use Rattle.plist_state.specs.State.{Readtables, WorldState, Worlds}
use Rattle.plist_state.specs.Lists.{AreListsOfSymbols}
use Rattle.plist_state.specs.Views.{NumberedRest, Rows}
use Rattle.plist_state.specs.KeptRows.{IsWider}
use Rattle.plist_state.specs.Undoing.{rests_at}
use Rattle.plist_state.specs.Journal.{marks_of, FitsRows, IsJournal, ContinuesJournal}
use Rattle.plist_state.specs.MarkedWorlds.{state_in, marked_states, AreMarkedListsOfSymbols, AreMarksSound}
use Rattle.plist_state.specs.Sound.{IsSoundWorldState}
use Rattle.package_table.proofs.Names.{same_some}
use Rattle.plist_state.proofs.Restored.{ends_with}
use Rattle.plist_state.proofs.Notes.{notes_of, rests_push, length-rests, journal_put, journal_wider}

pub length_marked : (ts : List Numbered) (rs : List NumberedRest) → length ts ≡ length rs → length (marked_states ts rs) ≡ length ts
length_marked [] rs e = refl
length_marked (t ∷ ts) [] e = absurd (omega (arith, e))
length_marked (t ∷ ts) (r ∷ rs) e = ap suc (length_marked ts rs (omega (arith, e)))

pub marked_push : (ts : List Numbered) (rs : List NumberedRest) (t : Numbered) (r : NumberedRest) → length ts ≡ length rs → marked_states (ts ++ t ∷ []) (rs ++ r ∷ []) ≡ marked_states ts rs ++ state_in t r ∷ []
marked_push [] [] t r e = refl
marked_push [] (s ∷ rs) t r e = absurd (omega (arith, e))
marked_push (u ∷ ts) [] t r e = absurd (omega (arith, e))
marked_push (u ∷ ts) (s ∷ rs) t r e = ap (λ ss. state_in u s ∷ ss) (marked_push ts rs t r (omega (arith, e)))

pub marked_take : (m : ℕ) (ts : List Numbered) (rs : List NumberedRest) → marked_states (take m ts) (take m rs) ≡ take m (marked_states ts rs)
marked_take zero ts rs = refl
marked_take (suc m) [] rs = refl
marked_take (suc m) (t ∷ ts) [] = refl
marked_take (suc m) (t ∷ ts) (r ∷ rs) = ap (λ ss. state_in t r ∷ ss) (marked_take m ts rs)

pub marked_get : (m : ℕ) (ts : List Numbered) (rs : List NumberedRest) (t : Numbered) (r : NumberedRest) → slice_get ts m ≡ Some t → slice_get rs m ≡ Some r → slice_get (marked_states ts rs) m ≡ Some (state_in t r)
marked_get m [] rs t r a b = absurd (cc)
marked_get m (u ∷ ts) [] t r a b = absurd (cc)
marked_get zero (u ∷ ts) (s ∷ rs) t r a b = cc
marked_get (suc m) (u ∷ ts) (s ∷ rs) t r a b = marked_get m ts rs t r a b

-- ---- each number with a list is that of a symbol
owned_push : (ts : List Numbered) (rs : List NumberedRest) (t : Numbered) (r : NumberedRest) → length ts ≡ length rs → AreMarkedListsOfSymbols ts rs → AreListsOfSymbols t r.properties → AreMarkedListsOfSymbols (ts ++ t ∷ []) (rs ++ r ∷ [])
owned_push [] [] t r e all one = (one, tt)
owned_push [] (s ∷ rs) t r e all one = absurd (omega (arith, e))
owned_push (u ∷ ts) [] t r e all one = absurd (omega (arith, e))
owned_push (u ∷ ts) (s ∷ rs) t r e all one = (all.0, owned_push ts rs t r (omega (arith, e)) all.1 one)

owned_take : (m : ℕ) (ts : List Numbered) (rs : List NumberedRest) → AreMarkedListsOfSymbols ts rs → AreMarkedListsOfSymbols (take m ts) (take m rs)
owned_take zero ts rs all = tt
owned_take (suc m) [] rs all = tt
owned_take (suc m) (t ∷ ts) [] all = tt
owned_take (suc m) (t ∷ ts) (r ∷ rs) all = (all.0, owned_take m ts rs all.1)

owned_get : (m : ℕ) (ts : List Numbered) (rs : List NumberedRest) (t : Numbered) (r : NumberedRest) → slice_get ts m ≡ Some t → slice_get rs m ≡ Some r → AreMarkedListsOfSymbols ts rs → AreListsOfSymbols t r.properties
owned_get m [] rs t r a b all = absurd (cc)
owned_get m (u ∷ ts) [] t r a b all = absurd (cc)
owned_get zero (u ∷ ts) (s ∷ rs) t r a b all =
    subst (λ (v : Numbered). AreListsOfSymbols v r.properties) (same_some u t a) (subst (λ (q : NumberedRest). AreListsOfSymbols u q.properties) (same_some s r b) all.0)
owned_get (suc m) (u ∷ ts) (s ∷ rs) t r a b all = owned_get m ts rs t r a b all.1

-- ---- a world that was left as it was
pub world_same : (past : List WorldState) (ts : Tables) (ms ns : List (List Note)) (r u : NumberedRest) → u ≡ r → rests_at ns u ≡ rests_at ms r
    → ◌≡◌ {A = Worlds} (state_in (table_now ts) u, past ++ marked_states ts.1.marked (rests_at ns u)) (state_in (table_now ts) r, past ++ marked_states ts.1.marked (rests_at ms r))
world_same past ts ms ns r u rest same = λ i. (state_in (table_now ts) (rest i), past ++ marked_states ts.1.marked (same i))

pub refused_same : {A E : Type 0} (res : Result A E) (past : List WorldState) (ts : Tables) (ms ns : List (List Note)) (r : NumberedRest) (later : Readtables) (w : Worlds)
    → IfErr res (λ _. later ≡ r.readtables) → rests_at ns (record r { readtables = later }) ≡ rests_at ms r → ◌≡◌ {A = Worlds} (state_in (table_now ts) r, past ++ marked_states ts.1.marked (rests_at ms r)) w
    → IfErr res (λ _. ◌≡◌ {A = Worlds} (state_in (table_now ts) (record r { readtables = later }), past ++ marked_states ts.1.marked (rests_at ns (record r { readtables = later }))) w)
refused_same (Ok x) past ts ms ns r later w tables same is = tt
refused_same (Err e) past ts ms ns r later w tables same is =
    world_same past ts ms ns r (record r { readtables = later }) (ap (λ (m : Readtables). record r { readtables = m }) tables) same ∙ is

-- ---- what is kept of the marks
as_many_push : {A B : Type 0} (xs : List A) (ys : List B) (x : A) (y : B) → length xs ≡ length ys → length (xs ++ x ∷ []) ≡ length (ys ++ y ∷ [])
as_many_push [] [] x y e = refl
as_many_push [] (b ∷ ys) x y e = absurd (omega (arith, e))
as_many_push (a ∷ xs) [] x y e = absurd (omega (arith, e))
as_many_push (a ∷ xs) (b ∷ ys) x y e = ap suc (as_many_push xs ys x y (omega (arith, e)))

as_many_take : {A B : Type 0} (m : ℕ) (xs : List A) (ys : List B) → length xs ≡ length ys → length (take m xs) ≡ length (take m ys)
as_many_take zero xs ys e = refl
as_many_take (suc m) [] [] e = refl
as_many_take (suc m) [] (b ∷ ys) e = absurd (omega (arith, e))
as_many_take (suc m) (a ∷ xs) [] e = absurd (omega (arith, e))
as_many_take (suc m) (a ∷ xs) (b ∷ ys) e = ap suc (as_many_take m xs ys (omega (arith, e)))

-- no marks
pub kept_none : (ts : List Numbered) (ms : List (List Note)) (r : NumberedRest) (rows : Rows) → ts ≡ [] → ms ≡ [] → AreMarksSound ts ms r rows
kept_none ts ms r rows no_table no_mark = subst (λ us. AreMarksSound us ms r rows) (sym no_table) (subst (λ ks. AreMarksSound [] ks r rows) (sym no_mark) (record {
  as_many = refl;
  journal = tt;
  owned = tt;
  sound = All-nil IsSoundWorldState;
}))

module _ (ts : List Numbered) (ms : List (List Note)) (r : NumberedRest) (rows : Rows) (kept : AreMarksSound ts ms r rows) where
  rests_many : length ts ≡ length (rests_at ms r)
  rests_many = kept.as_many ∙ sym (length-rests ms r)

  -- as many marked states
  pub states_many : length (marked_states ts (rests_at ms r)) ≡ length ms
  states_many = length_marked ts (rests_at ms r) rests_many ∙ kept.as_many

  -- a change that was noted
  pub kept_continued : (ns : List (List Note)) (u : NumberedRest) (later : Rows) → ContinuesJournal ms r ns u → FitsRows rows r → IsWider rows later → AreMarksSound ts ns u later
  kept_continued ns u later continues fits wider = record {
    as_many = rests_many ∙ ap length (sym continues.same) ∙ length-rests ns u;
    journal = journal_wider ns u rows later wider (continues.journal rows fits kept.journal);
    owned = subst (AreMarkedListsOfSymbols ts) (sym continues.same) kept.owned;
    sound = subst (λ rs. All IsSoundWorldState (marked_states ts rs)) (sym continues.same) kept.sound;
  }

  -- one mark more
  pub states_push : (t : Numbered) → marked_states (ts ++ t ∷ []) (rests_at (ms ++ [] ∷ []) r) ≡ marked_states ts (rests_at ms r) ++ state_in t r ∷ []
  states_push t = ap (marked_states (ts ++ t ∷ [])) (rests_push ms [] r) ∙ marked_push ts (rests_at ms r) t r rests_many

  pub kept_push : (t : Numbered) → AreListsOfSymbols t r.properties → IsSoundWorldState (state_in t r) → AreMarksSound (ts ++ t ∷ []) (ms ++ [] ∷ []) r rows
  kept_push t owned sound = record {
    as_many = as_many_push ts ms t [] kept.as_many;
    journal = journal_put ms [] r rows tt kept.journal;
    owned = subst (AreMarkedListsOfSymbols (ts ++ t ∷ [])) (sym (rests_push ms [] r)) (owned_push ts (rests_at ms r) t r rests_many kept.owned owned);
    sound = subst (All IsSoundWorldState) (sym (states_push t)) (All-push IsSoundWorldState (marked_states ts (rests_at ms r)) (state_in t r) kept.sound sound);
  }

  -- the first marks
  module _ (n : ℕ) (ns : List (List Note)) (u : NumberedRest) (past : rests_at ns u ≡ take n (rests_at ms r)) where
    pub states_take : marked_states (take n ts) (rests_at ns u) ≡ take n (marked_states ts (rests_at ms r))
    states_take = ap (marked_states (take n ts)) past ∙ marked_take n ts (rests_at ms r)

    pub kept_back : (later : Rows) → IsJournal ns u later → AreMarksSound (take n ts) ns u later
    kept_back later journal = record {
      as_many = as_many_take n ts (rests_at ms r) rests_many ∙ ap length (sym past) ∙ length-rests ns u;
      journal = journal;
      owned = subst (AreMarkedListsOfSymbols (take n ts)) (sym past) (owned_take n ts (rests_at ms r) kept.owned);
      sound = subst (All IsSoundWorldState) (sym states_take) (All-take IsSoundWorldState n (marked_states ts (rests_at ms r)) kept.sound);
    }

  -- one of the marks
  module _ (n : ℕ) (t : Numbered) (u : NumberedRest) (table : slice_get ts n ≡ Some t) (rest : slice_get (rests_at ms r) n ≡ Some u) where
    pub state_at : slice_get (marked_states ts (rests_at ms r)) n ≡ Some (state_in t u)
    state_at = marked_get n ts (rests_at ms r) t u table rest

    pub sound_at : IsSoundWorldState (state_in t u)
    sound_at =
        let all : List WorldState = marked_states ts (rests_at ms r) in
        let s : WorldState = state_in t u in
        subst IsSoundWorldState (get_or_from_slice_get all n s s state_at) (kept.sound n s (slice_get_within all n s state_at))

    pub owned_at : AreListsOfSymbols t u.properties
    owned_at = owned_get n ts (rests_at ms r) t u table rest kept.owned

-- the world that was marked
module _ {X : Type 0} where
  pub first_marks : (past : List X) (x : X) (later : List X) → take (length past) (past ++ x ∷ later) ≡ past
  first_marks [] x later = refl
  first_marks (y ∷ past) x later = ap (λ xs. y ∷ xs) (first_marks past x later)

  pub this_mark : (past : List X) (x : X) (later : List X) → slice_get (past ++ x ∷ later) (length past) ≡ Some x
  this_mark [] x later = refl
  this_mark (y ∷ past) x later = this_mark past x later

pub gone_back : (w new : Worlds) (later old : List WorldState) (mark : ℕ) → new.1 ≡ take mark old → slice_get old mark ≡ Some new.0 → old ≡ w.1 ++ w.0 ∷ later → length w.1 ≡ mark → new ≡ w
gone_back w new later old mark past now is count =
    let states : new.1 ≡ w.1 = past ∙ (λ i. take (sym count i) (is i)) ∙ first_marks w.1 w.0 later in
    let state : Some new.0 ≡ Some w.0 = sym now ∙ (λ i. slice_get (is i) (sym count i)) ∙ this_mark w.1 w.0 later in
    (λ i. (same_some new.0 w.0 state i, states i))

-- since the newest mark nothing was noted
pub nothing_since : (ms : List (Vec Note)) (newest : Vec Note) → Some newest ≡ slice_get ms (length ms - 1) → newest.items ≡ [] → (mark : ℕ) → mark + 1 ≡ length ms
    → (r : NumberedRest) → slice_get (rests_at (marks_of ms) r) mark ≡ Some r
nothing_since ms newest is none mark last r =
    let split : (before : List (Vec Note)) × (ms ≡ before ++ newest ∷ []) = ends_with ms newest is in
    let marks : marks_of ms ≡ marks_of split.0 ++ [] ∷ [] = ap marks_of split.1 ∙ map_push notes_of split.0 newest ∙ ap (λ ns. marks_of split.0 ++ ns ∷ []) none in
    let rests : rests_at (marks_of ms) r ≡ rests_at (marks_of split.0) r ++ r ∷ [] = ap (λ ks. rests_at ks r) marks ∙ rests_push (marks_of split.0) [] r in
    let before : length (rests_at (marks_of split.0) r) ≡ length split.0 = length-rests (marks_of split.0) r ∙ length-map split.0 notes_of in
    let all : length ms ≡ length split.0 + 1 = ap length split.1 ∙ length_push split.0 newest in
    let is_mark : mark ≡ length (rests_at (marks_of split.0) r) = omega (arith, before, all, last) in
    (λ i. slice_get (rests i) (is_mark i)) ∙ this_mark (rests_at (marks_of split.0) r) r []
