-- When a session takes snapshots: after each so many forms that were logged; once the half in use has grown so many times; and for a
-- record that has no room.
use Rattle.std.specs.Prelude.{Bool, ◌≡◌, ◌≢◌, ◌⊎◌, ℕ, ◌+◌, ◌*◌, ◌<◌, ◌≤◌, List, [], ◌∷◌, ◌++◌, length, Some}
use Rattle.disk_trait.specs.Disk.{State}
use Rattle.gate_log.specs.Layout.{LogRecord, half_base, next_version, size_of_record}
use Rattle.lisp_object.specs.declared.refusal.TheConstants.{DEVICE, LOG_FULL, OUTPUT, NO_MEMORY}
use Rattle.plist_state.specs.State.{WorldState}
use Rattle.world_text.specs.Snapshot.{snapshot}
use Rattle.session_words.specs.declared.mode.Mode.{Mode}
use Rattle.sessions.specs.declared.ending.Ending.{Ending}
use Rattle.sessions.specs.declared.ending.Ending.TheVariants.{End, Reader, Store}
use Rattle.prevalence_store.specs.meaning.Acceptance.{after, read_in}
use Rattle.user_macros.specs.Functions.{Functions}
use Rattle.sessions.specs.FormAnswers.{Progress, one_form}
use Rattle.prevalence_store.specs.calls.Store.{StoreView}
use Rattle.prevalence_store.specs.calls.Snapshot.{IsTooLargeFor}

-- A snapshot comes after every so many forms that were logged, never if that is 0, and the next one after so many as are left; and
-- once the half in use has grown so many times, never if that is 0.
pub record Pace : Type 0 where
  pub every : ℕ
  pub left : ℕ
  pub ratio : ℕ

-- the pace as a session begins
abbrev pub first_pace : (every ratio : ℕ) → Pace
first_pace every ratio = record { every = every; left = every; ratio = ratio }

-- A form that was logged was counted: one fewer is left until the next snapshot. Where it was the last one, the count begins
-- anew.
pub record CountsLoggedForm (pace later : Pace) : Type 0 where
  pub every : later.every ≡ pace.every
  pub ratio : later.ratio ≡ pace.ratio
  pub fewer : 1 < pace.left → later.left + 1 ≡ pace.left
  pub again : pace.left ≤ 1 → later.left ≡ pace.every

-- Whether the writes of the disk mix; and of the half in use its version, its generation, how many records it holds, and how many bytes it
-- takes and took before its first record.
pub record Fill : Type 0 where
  pub mixes : Bool
  pub version : ℕ
  pub generation : ℕ
  pub record_count : ℕ
  pub size : ℕ
  pub first_size : ℕ

-- what a store tells of its half in use, and its disk of its writes
abbrev pub fill_of : {D R : Type 0} → (D → State) → StoreView D R → Fill
fill_of state store = record { mixes = (state store.disk).mixes; version = store.version; generation = store.generation; record_count = store.record_count; size = store.size; first_size = store.first_size }

-- the half has at least 1 MiB, and so many times the bytes that it had before its first record; never, if that is 0 times
abbrev pub HasHalfGrown : ℕ → (size first_size : ℕ) → Type 0
HasHalfGrown ratio size first_size = (0 < ratio) × (1048576 ≤ size) × (ratio * first_size ≤ size)

-- a snapshot is due after the form that is logged now, by the number of forms
abbrev pub IsDueByCount : Pace → Type 0
IsDueByCount pace = (pace.left ≤ 1) × (0 < pace.every)

-- a snapshot is due after the form that is logged now, with which the half has come to this
abbrev pub IsDue : Pace → Fill → Type 0
IsDue pace fill = IsDueByCount pace ⊎ HasHalfGrown pace.ratio fill.size fill.first_size

-- what the half in use has with one record more
abbrev pub fill_with_record : LogRecord → Fill → Fill
fill_with_record entry fill = record fill { record_count = fill.record_count + 1; size = fill.size + size_of_record fill.version (length entry.text) }

-- how many bytes a half takes that is begun after this one with the text of this world
abbrev pub size_of_new_half : WorldState → Fill → ℕ
size_of_new_half world fill = half_base (next_version fill.mixes fill.version) (length (snapshot world))

-- what the half in use has after a snapshot: the version of a half that is begun after this one, the next generation, the text of this world,
-- and no record
abbrev pub fill_of_new_half : WorldState → Fill → Fill
fill_of_new_half world fill =
    record { mixes = fill.mixes; version = next_version fill.mixes fill.version; generation = fill.generation + 1; record_count = 0; size = size_of_new_half world fill; first_size = size_of_new_half world fill }

-- there is no half for a snapshot of this world after this one
abbrev pub HasNoNewHalf : ℕ → Fill → WorldState → Type 0
HasNoNewHalf limit fill world = IsTooLargeFor (next_version fill.mixes fill.version) limit fill.generation world

-- The form that this text begins with is accepted in this world, and a half with this in it would pass the limit by its record.
pub record IsOverIn (functions : Functions) (limit : ℕ) (fill : Fill) (world : WorldState) (mode : Mode) (text : List ℕ) : Type 0 where
  pub next : Progress
  pub next_is : one_form functions world mode text (read_in functions world mode text) ≡ Some next
  pub record_ : LogRecord
  pub is_taken : next.taken ≡ record_ ∷ []
  pub over : limit < fill.size + size_of_record fill.version (length record_.text)

-- ---- one form that was logged

-- A form with this record was logged in this world. If the half had no room for it, a snapshot was taken first.
pub record LogsWithRoom (limit : ℕ) (world : WorldState) (entry : LogRecord) (fill now : Fill) : Type 0 where
  pub room : Fill
  pub made : (room ≡ fill) ⊎ ((limit < fill.size + size_of_record fill.version (length entry.text)) × (room ≡ fill_of_new_half world fill))
  pub fits : room.size + size_of_record room.version (length entry.text) ≤ limit
  pub now_is : now ≡ fill_with_record entry room

-- What follows it, in the world that it left: a snapshot if one is due and there is a half for it, and else nothing.
abbrev pub IsFillAfterForm : ℕ → Pace → WorldState → Fill → Fill → Type 0
IsFillAfterForm limit pace world fill now =
    ((IsDue pace fill → ⊥) × (now ≡ fill))
    ⊎ ((IsDue pace fill × HasNoNewHalf limit fill world × (now ≡ fill))
    ⊎ (IsDue pace fill × (HasNoNewHalf limit fill world → ⊥) × (now ≡ fill_of_new_half world fill)))

module _ (functions : Functions) (limit : ℕ) where
  -- a form with this record, and what follows it: it was taken in this world, and left the other
  pub record PacesOne (world given : WorldState) (entry : LogRecord) (pace later : Pace) (fill now : Fill) : Type 0 where
    pub given_is : after functions world (entry ∷ []) ≡ Some given
    pub logged : Fill
    pub logs : LogsWithRoom limit world entry fill logged
    pub counts : CountsLoggedForm pace later
    pub followed : IsFillAfterForm limit pace given logged now

  -- Forms with these records, from this world on, each with what follows it. A form that leaves no record changes nothing of it.
  abbrev pub PacesForms : WorldState → List LogRecord → (pace later : Pace) (fill now : Fill) → Type 0
  PacesForms world [] pace later fill now = (later ≡ pace) × (now ≡ fill)
  PacesForms world (entry ∷ entries) pace later fill now =
      (given : WorldState) × (counted : Pace) × (next : Fill)
      × PacesOne world given entry pace counted fill next × PacesForms given entries counted later next now

  -- ---- how far the snapshots have come as a session ends, which began in this world

  module _ (world : WorldState) (pace : Pace) (fill : Fill) where
    -- all of these forms were logged, each with what follows it
    abbrev pub IsFillAfterForms : List LogRecord → Fill → Type 0
    IsFillAfterForms taken now = (later : Pace) × PacesForms world taken pace later fill now

    -- the last of them was logged, and what follows it is not there
    pub record IsFillAfterRecord (taken : List LogRecord) (now : Fill) : Type 0 where
      pub earlier : List LogRecord
      pub last : LogRecord
      pub parts : taken ≡ earlier ++ last ∷ []
      pub first : WorldState
      pub first_is : after functions world earlier ≡ Some first
      pub later : Pace
      pub before : Fill
      pub paced : PacesForms world earlier pace later fill before
      pub logs : LogsWithRoom limit first last before now

    -- after them the half had no room for the next form, and a snapshot was taken
    pub record HasMadeRoom (mode : Mode) (far : Progress) (now : Fill) : Type 0 where
      pub later : Pace
      pub before : Fill
      pub paced : PacesForms world far.taken pace later fill before
      pub next : IsOverIn functions limit before far.world mode far.rest
      pub begun : now ≡ fill_of_new_half far.world before

    module _ (mode : Mode) (forms : ℕ) (far : Progress) (lines : ℕ) (answered : Progress) (now : Fill) where
      -- All are logged, each with what follows it. If the device failed, it was in a snapshot, as the next form has no room.
      pub record EndsAfterAll (number : ℕ) : Type 0 where
        pub paced : IsFillAfterForms far.taken now
        pub other : number ≢ LOG_FULL
        pub fault : number ≡ DEVICE → IsOverIn functions limit now far.world mode far.rest

      -- the session ended in the answer to the last of them, or in the snapshot that is due after it
      pub record EndsInLast (number : ℕ) : Type 0 where
        pub unfollowed : IsFillAfterRecord far.taken now
        pub why : (number ≡ OUTPUT) ⊎ ((number ≡ NO_MEMORY) ⊎ ((number ≡ DEVICE) × IsDue unfollowed.later now))

      -- the next form has no room in the half that was begun for it, or memory ran out
      pub record EndsInNewHalf (number : ℕ) : Type 0 where
        pub made : HasMadeRoom mode far now
        pub why : (number ≡ LOG_FULL) ⊎ (number ≡ NO_MEMORY)

      -- the device failed as the last of them were logged; those before these were answered
      pub record EndsInRecord (number : ℕ) : Type 0 where
        pub device : number ≡ DEVICE
        pub some_open : lines < forms
        pub before : IsFillAfterForms answered.taken now ⊎ HasMadeRoom mode answered now

      -- how far the snapshots have come, by the way in which the session ended
      abbrev pub EndsInPace : Ending → Type 0
      EndsInPace End = IsFillAfterForms far.taken now
      EndsInPace (Reader number) = IsFillAfterForms far.taken now
      EndsInPace (Store number) = EndsAfterAll number ⊎ (EndsInLast number ⊎ (EndsInNewHalf number ⊎ EndsInRecord number))
