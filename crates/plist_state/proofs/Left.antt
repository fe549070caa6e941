-- What a call on the readtables leaves of a world, whether it is refused or not: a change was noted, or nothing changed.
--     left_kept      the world is kept
--     left_marked, left_refused      the marked states are the same, and after a refusal the whole world
use Rattle.std.proofs.Common.{◌≡◌, ℕ, Result, Ok, ◌++◌, refl, ap, ◌∙◌}
use Rattle.std.specs.Prelude.{IfErr}
use Rattle.std.specs.Global.{Vec}
use Rattle.std.specs.BTreeMap.{BTreeMap}
use Rattle.readtable_core.specs.Tables.{Table}
use Rattle.plist_state.specs.declared.error.ReadtableError.{ReadtableError}
use Rattle.plist_state.specs.declared.note.Note.{Note}
use Rattle.plist_state.specs.declared.world.World.TheInside.{Inside}
use Rattle.package_table.specs.Numbers.{table_now}
use Rattle.plist_state.specs.State.{Readtables, Worlds}
use Rattle.plist_state.specs.Views.{NumberedRest, readtables_of, rest_of}
use Rattle.plist_state.specs.Changes.{AnswersReadtables}
use Rattle.plist_state.specs.Journal.{ContinuesJournal, marks_of}
use Rattle.plist_state.specs.MarkedWorlds.{HasKeptWorld, state_in, marked_states, earlier_states, worlds_of}
use Rattle.plist_state.specs.Sound.{IsSoundWorldState}
use Rattle.plist_state.proofs.KeptWorld.{kept_gives}
use Rattle.plist_state.proofs.ListRows.{wider_same}
use Rattle.plist_state.proofs.Marking.{kept_continued, refused_same}
use Rattle.plist_state.proofs.Notes.{fits_now}

-- the world with other readtables and marks
abbrev pub with_tables : Inside → BTreeMap (Vec ℕ) Table → Vec (Vec Note) → Inside
with_tables a tables marks = record a { stored = record a.stored { readtables = tables }; marks = marks }

module _ (a : Inside) (tables : BTreeMap (Vec ℕ) Table) (marks : Vec (Vec Note)) (r : Result (Unit {0}) ReadtableError)
    (unchanged : IfErr r (λ _. readtables_of tables ≡ readtables_of a.stored.readtables))
    (noted : (q : NumberedRest) → ContinuesJournal (marks_of a.marks.items) (record q { readtables = readtables_of a.stored.readtables }) (marks_of marks.items) (record q { readtables = readtables_of tables })) where
  pub left_kept : (said : Result Readtables ReadtableError) → AnswersReadtables (λ _. readtables_of tables) r said → HasKeptWorld a
      → ((v : Readtables) → said ≡ Ok v → IsSoundWorldState (record (state_in (table_now a.packages) (rest_of a.stored)) { readtables = v })) → HasKeptWorld (with_tables a tables marks)
  left_kept said gives kept sound =
      let rows = a.stored.properties.items in
      record {
        now = record {
          values = kept.now.values;
          indexed = kept.now.indexed;
          sizes = kept.now.sizes;
          owned = kept.now.owned;
          sound = kept_gives r (state_in (table_now a.packages) (rest_of a.stored)) (readtables_of tables) said gives unchanged kept.now.sound sound;
          marked = kept_continued a.packages.1.marked (marks_of a.marks.items) (rest_of a.stored) rows kept.now.marked (marks_of marks.items) _ rows
              (noted (rest_of a.stored)) (fits_now rows (rest_of a.stored) refl) (wider_same rows rows refl);
        };
        earlier = kept.earlier;
      }

  module _ (w : Worlds) (seen : worlds_of a ≡ w) where
    pub left_marked : (worlds_of (with_tables a tables marks)).1 ≡ w.1
    left_marked = ap (λ rs. earlier_states a.earlier.items ++ marked_states a.packages.1.marked rs) (noted (rest_of a.stored)).same ∙ ap (λ (w : Worlds). w.1) seen

    pub left_refused : IfErr r (λ _. worlds_of (with_tables a tables marks) ≡ w)
    left_refused =
        refused_same r (earlier_states a.earlier.items) a.packages (marks_of a.marks.items) (marks_of marks.items) (rest_of a.stored) (readtables_of tables) w unchanged (noted (rest_of a.stored)).same seen
