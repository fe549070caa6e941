-- Calls whose forms are logged together: of each a crash leaves all of them, or none.
use Rattle.std.specs.Prelude.{◌≡◌, ℕ, ◌≤◌, List, [], ◌∷◌, ◌++◌, length, take, Option, None, Some}
use Rattle.disk_trait.specs.Disk.{Image, State, Throughout}
use Rattle.plist_state.specs.State.{WorldState}
use Rattle.prevalence_store.specs.Theorem.{Call, Reopens, disk_after, forms_of, world_after}
use Rattle.prevalence_store.specs.calls.ExecuteAll.{MeansAllOrNone}
use Rattle.prevalence_store.specs.meaning.Acceptance.{after}
use Rattle.prevalence_store.specs.meaning.Files.{MeansWorld}
use Rattle.user_macros.specs.Functions.{Functions}

module _ (functions : Functions) {D : Type 0} (state : D → State) where
  -- Calls in a row from this disk and world on: at each moment of each of them all of its forms are there, or none.
  abbrev pub AreTogether : D → Option WorldState → List (Call D) → Type 0
  AreTogether disk left [] = Unit {0}
  AreTogether disk None (call ∷ calls) = ⊥
  AreTogether disk (Some world) (call ∷ calls) =
      Throughout (state disk) (state call.disk) (MeansAllOrNone functions world call.taken) × AreTogether call.disk call.left calls

-- The image means the world after all forms of the first few of these calls, and of at least so many of them, and after no other form.
pub record MeansCalls (functions : Functions) {D : Type 0} (world : WorldState) (calls : List (Call D)) (least : ℕ) (image : Image) : Type 0 where
  pub count : ℕ
  pub enough : least ≤ count
  pub among : count ≤ length calls
  pub left : WorldState
  pub after_those : after functions world (forms_of (take count calls)) ≡ Some left
  pub meant : MeansWorld functions image left

-- the world after all forms of the first few of these calls, and of at least so many of them
pub record IsAfterCalls (functions : Functions) {D : Type 0} (world : WorldState) (calls : List (Call D)) (least : ℕ) (now : WorldState) : Type 0 where
  pub count : ℕ
  pub enough : least ≤ count
  pub among : count ≤ length calls
  pub after_those : after functions world (forms_of (take count calls)) ≡ Some now

-- The earlier of these calls left the store open.
pub record InWholeCalls (functions : Functions) {D : Type 0} (state : D → State) (start : D) (world : WorldState) (earlier later : List (Call D)) : Type 0 where
  -- A crash at any moment after them, inside a later one too, leaves the world after all forms of the earlier calls, and of so many of the
  -- later: of no call a part.
  pub any_moment : (now : WorldState) → world_after (Some world) earlier ≡ Some now
      → (image : Image) → (state (disk_after start (earlier ++ later))).left_since (state (disk_after start earlier)).moment image
      → MeansCalls functions world (earlier ++ later) (length earlier) image
  -- And a store that is opened on what the crash left has that world.
  pub reopened : (now : WorldState) → world_after (Some world) earlier ≡ Some now
      → (image : Image) (crashed opened : D) (found : WorldState)
      → (state (disk_after start (earlier ++ later))).left_since (state (disk_after start earlier)).moment image
      → (state crashed).reads ≡ image → Reopens functions (state crashed) (state opened) found
      → IsAfterCalls functions world (earlier ++ later) (length earlier) found
