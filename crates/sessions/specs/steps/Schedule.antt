-- The snapshots of a session, by its schedule.
use Rattle.std.specs.Prelude.{◌≡◌, ◌⊎◌, ℕ, zero, suc, ◌+◌, ◌<◌, ◌≤◌, Bool, true, false, Option, None, Some, Ok, Err, Result}
use Rattle.disk_trait.specs.Disk.{State}
use Rattle.sessions.specs.declared.schedule.Schedule.{Schedule}
use Rattle.sessions.specs.Pace.{CountsLoggedForm, Fill, HasHalfGrown, IsDue, IsDueByCount, Pace, fill_of}
use Rattle.prevalence_store.specs.calls.Store.{StoreView}
use Rattle.prevalence_store.specs.calls.Snapshot.{HasNoHalf, HasNoSnapshotMemory, IsSnapshotFault, IsSnapshotted, IsTooLarge}
use Rattle.plist_state.specs.State.{WorldState}
use Rattle.user_macros.specs.Functions.{Functions}

-- the pace that a session is at
abbrev pub pace_of : Schedule → Pace
pace_of schedule = record { every = schedule.every; left = schedule.left; ratio = schedule.ratio }

-- ---- many forms at once

-- so many forms may be logged one after the other, and no snapshot is due after any of them
abbrev pub IsBeforeDue : Pace → ℕ → Type 0
IsBeforeDue pace count = (count < pace.left) ⊎ ((count ≡ 0) ⊎ ((pace.left ≤ 1) × (pace.every ≡ 0)))

-- so many bytes more, if there are some, are too few for a half to have grown so many times
abbrev pub IsBeforeGrown : ℕ → Fill → ℕ → Type 0
IsBeforeGrown ratio fill more = 0 < more → HasHalfGrown ratio (fill.size + more) fill.first_size → ⊥

-- so many forms that were logged were counted, one after the other, and no snapshot was due by their number
abbrev pub CountsAll : ℕ → Pace → Pace → Type 0
CountsAll zero pace later = later ≡ pace
CountsAll (suc count) pace later = (counted : Pace) × CountsLoggedForm pace counted × (IsDueByCount pace → ⊥) × CountsAll count counted later

-- ---- a snapshot in a session

module _ (functions : Functions) {D R : Type 0} (state : D → State) (old new : StoreView D R) (world : WorldState) where
  -- a snapshot was taken; or it was refused with this number, as there is no half for it, the device failed or memory ran
  -- out
  abbrev pub RenewsOrIsRefused : Result Unit ℕ → Type 0
  RenewsOrIsRefused (Ok done) = IsSnapshotted functions state old new world
  RenewsOrIsRefused (Err number) =
      HasNoHalf functions state old new world number
      ⊎ (IsSnapshotFault functions state old new world number ⊎ HasNoSnapshotMemory functions state old new world number)

  -- after a form that was logged: if none is due, or there is no half for it, nothing was done; and else it was taken
  abbrev pub RenewsIfDue : Pace → Type 0
  RenewsIfDue pace =
      ((IsDue pace (fill_of state old) → ⊥) × (new ≡ old)) ⊎ (IsDue pace (fill_of state old) × ((IsTooLarge (state old.disk).mixes old world × (new ≡ old)) ⊎ IsSnapshotted functions state old new world))

  -- After a form that was answered: one that was logged was counted, and a snapshot was taken if it is due; or it has ended the
  -- session, with this number.
  abbrev pub RenewsAfterForm : Bool → (pace later : Pace) → Option ℕ → Type 0
  RenewsAfterForm wrote pace later None =
      ((wrote ≡ false) × (later ≡ pace) × (new ≡ old)) ⊎ ((wrote ≡ true) × CountsLoggedForm pace later × RenewsIfDue pace)
  RenewsAfterForm wrote pace later (Some number) =
      (wrote ≡ true) × IsDue pace (fill_of state old) × (IsSnapshotFault functions state old new world number ⊎ HasNoSnapshotMemory functions state old new world number)
