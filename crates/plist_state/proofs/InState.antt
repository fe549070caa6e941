-- A state with the property lists by their symbols, from what is kept by their numbers.
--     state_listed      one list is changed
--     world_listed, world_same_err      the world after a change of a list, or after none
--     row_seen, none_seen      what is seen of a symbol
--     property_seen, no_property, property_out      what is seen of a property, and one that is not there taken out
--     packages_kept, packages_rest, packages_unchanged, packages_changed      the world with other packages, in which no symbol is lost and each keeps its number
use Rattle.std.proofs.Common.{◌≡◌, ℕ, Bool, List, [], None, Some, Result, Ok, Err, ◌++◌, refl, sym, ap, subst, ◌∙◌}
use Rattle.std.specs.Prelude.{OnOk, OnErr, IfOk, IfErr}
use Rattle.package_table.specs.Table as packages
use Rattle.package_table.specs.declared.error.PackageError.{PackageError}
use Rattle.package_table.specs.Table.{Table, symbol_count}
use Rattle.package_table.specs.Changes.{AnswersPackages, RunsOutOnlyIf, Yields}
use Rattle.package_table.specs.Numbers.{Numbered, Tables, table_now, number_of}
use Rattle.package_table.specs.Numbering.{AreSymbolsNumbered, KeepsNumbers}
use Rattle.package_table.specs.Growth.{Grows, TellsOfChange}
use Rattle.plist_state.specs.declared.note.Note.{Note}
use Rattle.plist_state.specs.declared.world.World.TheInside.{Inside}
use Rattle.plist_state.specs.Properties.{Symbol, Plist, Properties, value_at, list_at, with_list}
use Rattle.plist_state.specs.State.{WorldState, Worlds}
use Rattle.plist_state.specs.Changes.{plist, property, without_property, with_packages}
use Rattle.plist_state.specs.PackageCalls.{ChangesPackages}
use Rattle.plist_state.specs.Lists.{NumberedPlist, plist_of_number, with_row, value_in, named_plist, lists}
use Rattle.plist_state.specs.Views.{NumberedRest, rest_of}
use Rattle.plist_state.specs.Undoing.{rests_at}
use Rattle.plist_state.specs.Journal.{marks_of}
use Rattle.plist_state.specs.Sound.{IsSoundWorldState}
use Rattle.plist_state.specs.MarkedWorlds.{state_in, marked_states, earlier_states, worlds_of, AreMarksSound, HasKeptWorld}
use Rattle.plist_state.proofs.Listed.{lists_at, lists_none, lists_put, lists_grown, owned_grown}
use Rattle.plist_state.proofs.Marking.{world_same}
use Rattle.plist_state.proofs.Named.{value_named, value_unnamed}
use Rattle.plist_state.proofs.Soundness.{sound_packages, removed_absent}

-- what is kept where the list of a number is changed
abbrev pub with_changed_row : NumberedRest → ℕ → (NumberedPlist → NumberedPlist) → NumberedRest
with_changed_row r n g = record r { properties = with_row r.properties n (g (plist_of_number r.properties n)) }

-- a state where the list of a symbol is changed
abbrev pub with_changed_list : WorldState → Symbol → (Plist → Plist) → WorldState
with_changed_list s x f = record s { properties = with_list s.properties x (f (list_at s.properties x)) }

module _ (s : Numbered) (count : ℕ) (counted : AreSymbolsNumbered s count) (x : Symbol) (n : ℕ) (is : number_of s x.0 x.1 ≡ Some n) where
  -- what g makes of the list by numbers, f makes of the list by symbols
  pub state_listed : (r : NumberedRest) (g : NumberedPlist → NumberedPlist) (f : Plist → Plist) → named_plist s (g (plist_of_number r.properties n)) ≡ f (named_plist s (plist_of_number r.properties n))
      → state_in s (with_changed_row r n g) ≡ with_changed_list (state_in s r) x f
  state_listed r g f made =
      ap (λ (m : Properties). record (state_in s r) { properties = m })
      (lists_put s count counted r.properties x n (g (plist_of_number r.properties n)) is
      ∙ ap (with_list (lists s r.properties) x) (made ∙ ap f (sym (lists_at s r.properties x n is))))

module _ {A E : Type 0} (res : Result A E) (past : List WorldState) (ts : Tables) (ms ns : List (List Note)) (r u : NumberedRest) (same : rests_at ns u ≡ rests_at ms r)
    (w : Worlds) (seen : ◌≡◌ {A = Worlds} (state_in (table_now ts) r, past ++ marked_states ts.1.marked (rests_at ms r)) w) where
  pub world_listed : (count : ℕ) → AreSymbolsNumbered (table_now ts) count → (x : Symbol) (n : ℕ) → number_of (table_now ts) x.0 x.1 ≡ Some n
      → (g : NumberedPlist → NumberedPlist) (f : Plist → Plist) → named_plist (table_now ts) (g (plist_of_number r.properties n)) ≡ f (named_plist (table_now ts) (plist_of_number r.properties n))
      → OnOk res (u ≡ with_changed_row r n g)
      → OnOk res (◌≡◌ {A = Worlds} (state_in (table_now ts) u, past ++ marked_states ts.1.marked (rests_at ns u)) (with_changed_list w.0 x f, w.1))
  world_listed count counted x n is g f made = done res
    where
      done : (q : Result A E) → OnOk q (u ≡ with_changed_row r n g)
          → OnOk q (◌≡◌ {A = Worlds} (state_in (table_now ts) u, past ++ marked_states ts.1.marked (rests_at ns u)) (with_changed_list w.0 x f, w.1))
      done (Err e) ok = tt
      done (Ok v) ok =
          (λ i. (state_in (table_now ts) (ok i), past ++ marked_states ts.1.marked (same i)))
          ∙ (λ i. (state_listed (table_now ts) count counted x n is r g f made i, past ++ marked_states ts.1.marked (rests_at ms r)))
          ∙ ap (λ (v : Worlds). (with_changed_list v.0 x f, v.1)) seen

  pub world_same_err : OnErr res (u ≡ r) → OnErr res (◌≡◌ {A = Worlds} (state_in (table_now ts) u, past ++ marked_states ts.1.marked (rests_at ns u)) w)
  world_same_err = done res
    where
      done : (q : Result A E) → OnErr q (u ≡ r) → OnErr q (◌≡◌ {A = Worlds} (state_in (table_now ts) u, past ++ marked_states ts.1.marked (rests_at ns u)) w)
      done (Ok v) err = tt
      done (Err e) err = world_same past ts ms ns r u err same ∙ seen

-- ---- what is seen of a symbol
module _ (a : Inside) (w : Worlds) (seen : worlds_of a ≡ w) (x : Symbol) where
  pub row_seen : (n : ℕ) → number_of (table_now a.packages) x.0 x.1 ≡ Some n → named_plist (table_now a.packages) (plist_of_number (rest_of a.stored).properties n) ≡ plist w.0 x
  row_seen n is = sym (lists_at (table_now a.packages) (rest_of a.stored).properties x n is) ∙ ap (λ (v : Worlds). plist v.0 x) seen

  pub none_seen : number_of (table_now a.packages) x.0 x.1 ≡ None → [] ≡ plist w.0 x
  none_seen is = sym (lists_none (table_now a.packages) (rest_of a.stored).properties x is) ∙ ap (λ (v : Worlds). plist v.0 x) seen

-- ---- what is seen of a property
module _ (a : Inside) (kept : HasKeptWorld a) (w : Worlds) (seen : worlds_of a ≡ w) (x i : Symbol) where
  -- a property by the numbers of its symbol and of its indicator
  pub property_seen : (count : ℕ) → AreSymbolsNumbered (table_now a.packages) count → (n j : ℕ) → number_of (table_now a.packages) x.0 x.1 ≡ Some n → number_of (table_now a.packages) i.0 i.1 ≡ Some j
      → value_in (rest_of a.stored).properties n j ≡ property w.0 x i
  property_seen count counted n j owner indicator =
      sym (value_named (table_now a.packages) count counted i j indicator (plist_of_number (rest_of a.stored).properties n) (kept.now.owned.indicators n))
      ∙ ap (λ ps. value_at ps i) (row_seen a w seen x n owner)

  -- what has no number is no indicator
  pub no_property : (n : ℕ) → number_of (table_now a.packages) x.0 x.1 ≡ Some n → number_of (table_now a.packages) i.0 i.1 ≡ None → property w.0 x i ≡ None
  no_property n owner none =
      ap (λ ps. value_at ps i) (sym (row_seen a w seen x n owner))
      ∙ value_unnamed (table_now a.packages) i none (plist_of_number (rest_of a.stored).properties n) (kept.now.owned.indicators n)

  -- a property that is not there, removed
  pub property_out : property w.0 x i ≡ None → ◌≡◌ {A = Worlds} (without_property w.0 x i, w.1) w
  property_out absent =
      ap (λ (t : WorldState). (t, w.1)) (removed_absent w.0 x i (subst (λ (v : Worlds). IsSoundWorldState v.0) seen kept.now.sound) absent)

-- ---- other packages
module _ (a : Inside) (ts : Tables) (grows : Grows a.packages.0 ts.0) (keeps : KeepsNumbers (table_now a.packages) (table_now ts))
    (counted : AreSymbolsNumbered (table_now ts) (symbol_count ts.0)) (marked : ts.1.marked ≡ a.packages.1.marked) (kept : HasKeptWorld a) where
  same_lists : lists (table_now ts) (rest_of a.stored).properties ≡ lists (table_now a.packages) (rest_of a.stored).properties
  same_lists = lists_grown (table_now a.packages) (table_now ts) (symbol_count ts.0) counted grows keeps (rest_of a.stored).properties kept.now.owned

  same_state : state_in (table_now ts) (rest_of a.stored) ≡ with_packages (state_in (table_now a.packages) (rest_of a.stored)) ts.0
  same_state = ap (λ (m : Properties). record (state_in (table_now ts) (rest_of a.stored)) { properties = m }) same_lists

  pub packages_rest : (w : Worlds) → worlds_of a ≡ w → worlds_of (record a { packages = ts }) ≡ (with_packages w.0 ts.0, w.1)
  packages_rest w seen =
      (λ i. (same_state i, earlier_states a.earlier.items ++ marked_states (marked i) (rests_at (marks_of a.marks.items) (rest_of a.stored))))
      ∙ ap (λ (v : Worlds). (with_packages v.0 ts.0, v.1)) seen

  pub packages_kept : packages.AreSoundPackages ts.0 → HasKeptWorld (record a { packages = ts })
  packages_kept sound = record {
    now = record {
      values = kept.now.values;
      indexed = kept.now.indexed;
      sizes = kept.now.sizes;
      owned = owned_grown (table_now a.packages) (table_now ts) (symbol_count ts.0) counted grows keeps (rest_of a.stored).properties kept.now.owned;
      sound = subst IsSoundWorldState (sym same_state) (sound_packages (state_in (table_now a.packages) (rest_of a.stored)) ts.0 kept.now.sound sound grows);
      marked = subst (λ ss. AreMarksSound ss (marks_of a.marks.items) (rest_of a.stored) a.stored.properties.items) (sym marked) kept.now.marked;
    };
    earlier = kept.earlier;
  }

pub packages_unchanged : {A E : Type 0} (res : Result A E) (a : Inside) (ts : Tables) → IfErr res (λ _. ts ≡ a.packages) → (w : Worlds) → worlds_of a ≡ w → IfErr res (λ _. worlds_of (record a { packages = ts }) ≡ w)
packages_unchanged (Ok x) a ts same w seen = tt
packages_unchanged (Err e) a ts same w seen = ap (λ (ts : Tables). worlds_of (record a { packages = ts })) same ∙ seen

-- what a call of the packages answers, of the world
pub packages_changed : (a : Inside) (ts : Tables) → Grows a.packages.0 ts.0 → KeepsNumbers (table_now a.packages) (table_now ts) → AreSymbolsNumbered (table_now ts) (symbol_count ts.0) → ts.1.marked ≡ a.packages.1.marked → HasKeptWorld a
    → (res : Result Bool PackageError) (after : Table → Result Table PackageError) (changes : Table → Bool)
    → AnswersPackages (λ _. ts.0) res (after a.packages.0) → Yields res (changes a.packages.0) → IfErr res (RunsOutOnlyIf (changes a.packages.0)) → IfOk res (λ changed. TellsOfChange changed a.packages.0 ts.0) → IfErr res (λ _. ts ≡ a.packages)
    → (w : Worlds) → worlds_of a ≡ w → ChangesPackages w (worlds_of (record a { packages = ts })) res (after w.0.packages) (changes w.0.packages)
packages_changed a ts grows keeps counted marked kept res after changes gives changed memory exactly unchanged w seen =
    subst (λ (v : Worlds). ChangesPackages v (worlds_of (record a { packages = ts })) res (after v.0.packages) (changes v.0.packages)) seen
    (record {
      gives = gives;
      changed = changed;
      memory = memory;
      exactly = exactly;
      rest = packages_rest a ts grows keeps counted marked kept (worlds_of a) refl;
      grows = grows;
      unchanged = packages_unchanged res a ts unchanged (worlds_of a) refl;
    })
