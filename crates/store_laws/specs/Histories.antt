-- Whatever may happen to a store and to the disk under it, one after the other in any order; and what follows from it.
use Rattle.std.specs.Prelude.{◌≡◌, ℕ, ◌+◌, ◌≤◌, List, [], ◌∷◌, ◌++◌, length, take, Bool, Option, None, Some}
use Rattle.disk_trait.specs.Disk.{State, IsHonest, Throughout}
use Rattle.gate_log.specs.Layout.{LogRecord}
use Rattle.plist_state.specs.State.{WorldState}
use Rattle.prevalence_store.specs.declared.open_fault.OpenFault.{OpenFault}
use Rattle.prevalence_store.specs.meaning.Acceptance.{after}
use Rattle.prevalence_store.specs.calls.Open.{IsNoWord, IsUnopened, limit_at_open}
use Rattle.prevalence_store.specs.Theorem.{Call, IsAfterSome, IsStoppedBetween, Keeps, KeepsSome, MeansAsBefore, Reopens, Survives}
use Rattle.user_macros.specs.Functions.{Functions}

-- What happened, and the disk that is there then. A stop is a loss of power, or the end of the process while the machine goes on.
pub data Event (D : Type 0) : Type 0 where
  -- the disk was opened, and the store has this world
  opened : D → WorldState → Event D
  -- an opening under this limit was refused for this fault, and gave a disk back
  refused : ℕ → OpenFault → D → Event D
  -- a call of the open store came to its end, perhaps in a device fault
  called : Call D → Event D
  -- a stop between two of these
  stopped : D → Event D
  -- a stop within a call, which would have come to this end
  stopped_in_call : Call D → D → Event D
  -- a stop within an opening, which would have left the first of these disks, refused or not
  stopped_in_opening : D → D → Event D

-- the disk that is there after an event
abbrev pub disk_by : {D : Type 0} → Event D → D
disk_by (opened now world) = now
disk_by (refused limit fault back) = back
disk_by (called call) = call.disk
disk_by (stopped now) = now
disk_by (stopped_in_call call now) = now
disk_by (stopped_in_opening there now) = now

-- The world of the open store after an event. None, if no store is open then: after a device fault, a stop or a refused
-- opening.
abbrev pub world_left_by : {D : Type 0} → Event D → Option WorldState
world_left_by (opened now world) = Some world
world_left_by (refused limit fault back) = None
world_left_by (called call) = call.left
world_left_by (stopped now) = None
world_left_by (stopped_in_call call now) = None
world_left_by (stopped_in_opening there now) = None

-- ---- what has to be true of events

-- The stop came at some moment between these two disks, and left an honest one: what a crash leaves of it, a crash might have left
-- at that moment. After a loss of power that is one image.
pub record IsStop {D : Type 0} (state : D → State) (start now after : D) : Type 0 where
  pub honest : IsHonest (state after)
  pub between : IsStoppedBetween (state start) (state now) (state after)

module _ (functions : Functions) {D : Type 0} (state : D → State) where
  -- A call on this disk, of the store that has this world. There is none where no store is open.
  abbrev pub IsCallOfStore : D → Option WorldState → Call D → Type 0
  IsCallOfStore disk None call = ⊥
  IsCallOfStore disk (Some world) call = Survives functions (state disk) (state call.disk) world call.taken call.acknowledged call.left

  -- an opening of this disk gave the other one, with this world
  pub record IsOpening (disk now : D) (world : WorldState) : Type 0 where
    pub reopens : Reopens functions (state disk) (state now) world
    pub honest : (state now).honest ≡ (state disk).honest

  -- an opening of this disk was refused for this fault, and gave the other one back
  pub record IsRefusal (disk : D) (limit : ℕ) (fault : OpenFault) (back : D) : Type 0 where
    pub whole : Bool
    pub number : ℕ
    pub unopened : IsUnopened functions state disk whole limit number back
    pub fault_is : unopened.fault ≡ fault

  -- at each moment of an opening of this disk a crash leaves what some image meant before it, whether it is refused or not
  abbrev pub IsOpenedOrNot : D → D → Type 0
  IsOpenedOrNot disk there = Throughout (state disk) (state there) (MeansAsBefore functions (state disk))

  -- this happened to a disk, where an open store had this world or none was open
  abbrev pub EventHappens : D → Option WorldState → Event D → Type 0
  EventHappens disk left (opened now world) = IsOpening disk now world
  EventHappens disk left (refused limit fault back) = IsRefusal disk limit fault back
  EventHappens disk left (called call) = IsCallOfStore disk left call
  EventHappens disk left (stopped now) = IsStop state disk disk now
  EventHappens disk left (stopped_in_call call now) = IsCallOfStore disk left call × IsStop state disk call.disk now
  EventHappens disk left (stopped_in_opening there now) = IsOpenedOrNot disk there × IsStop state disk there now

  -- each of these happened where the one before it ended
  abbrev pub EventsHappened : D → Option WorldState → List (Event D) → Type 0
  EventsHappened disk left [] = Unit {0}
  EventsHappened disk left (event ∷ events) = EventHappens disk left event × EventsHappened (disk_by event) (world_left_by event) events

-- ---- what follows from them

module _ (functions : Functions) {D : Type 0} (state : D → State) (first : WorldState) where
  -- How it stands after events. The line are the forms that were accepted since the first world, without those that a crash took
  -- back; the first so many of them are sure, among them all that were acknowledged.
  pub record StandsAfterEvents (line : List LogRecord) (sure : ℕ) (disk : D) (left : Option WorldState) : Type 0 where
    pub honest : IsHonest (state disk)
    -- whatever a crash now leaves means the world after some of the line, from the first on, and after those that are sure
    pub keeps : KeepsSome functions (state disk) first line sure
    -- an open store has the world after all of the line, and whatever a crash now leaves means that world
    pub whole : (world : WorldState) → left ≡ Some world → (after functions first line ≡ Some world) × Keeps functions (state disk) world

  -- What follows from these events, after such a line. An opening finds the world after some of the line, and after those that are
  -- sure: these forms are the line from then on, and sure. A refused opening is no word on the files. A call adds the forms that it
  -- took, of which those are sure that it acknowledged; of a call that was stopped none is.
  abbrev pub FollowsFromEvents : (line : List LogRecord) (sure : ℕ) (disk : D) (left : Option WorldState) → List (Event D) → Type 0
  FollowsFromEvents line sure disk left [] = StandsAfterEvents line sure disk left
  FollowsFromEvents line sure disk left (opened now world ∷ events) =
      (found : IsAfterSome functions first line sure world) × FollowsFromEvents (take found.count line) found.count now (Some world) events
  FollowsFromEvents line sure disk left (refused limit fault back ∷ events) =
      IsNoWord (state disk).mixes (limit_at_open limit) (state disk).reads fault × FollowsFromEvents line sure back None events
  FollowsFromEvents line sure disk left (called call ∷ events) =
      FollowsFromEvents (line ++ call.taken) (length line + call.acknowledged) call.disk call.left events
  FollowsFromEvents line sure disk left (stopped now ∷ events) = FollowsFromEvents line sure now None events
  FollowsFromEvents line sure disk left (stopped_in_call call now ∷ events) = FollowsFromEvents (line ++ call.taken) (length line) now None events
  FollowsFromEvents line sure disk left (stopped_in_opening there now ∷ events) = FollowsFromEvents line sure now None events

  -- How it stands after these events, whichever they were: what was sure is still there, at the front of the line.
  pub record StillStands (line : List LogRecord) (sure : ℕ) (disk : D) (left : Option WorldState) : Type 0 where
    pub more : List LogRecord
    pub now_sure : ℕ
    pub no_less : sure ≤ now_sure
    pub stands : StandsAfterEvents (take sure line ++ more) now_sure disk left

-- the disk that is there after these events
abbrev pub last_disk : {D : Type 0} → D → List (Event D) → D
last_disk disk [] = disk
last_disk disk (event ∷ events) = last_disk (disk_by event) events

-- the world of the open store after these events; None, if none is open
abbrev pub last_left : {D : Type 0} → Option WorldState → List (Event D) → Option WorldState
last_left left [] = left
last_left left (event ∷ events) = last_left (world_left_by event) events
