-- A store on a new disk in memory that took a form, and what a crash leaves of it.
use Rattle.std.specs.Prelude.{◌≡◌, ℕ, List, Ok, Some}
use Rattle.disk_trait.specs.Disk.{Image, IsFresh}
use Rattle.disk_trait.specs.Memory.{state_of}
use Rattle.disk_trait.specs.declared.memory.MemoryDisk.{MemoryDisk}
use Rattle.plist_state.specs.State.{WorldState, initial}
use Rattle.prevalence_store.specs.Theorem.{MeansSome, Reopens}
use Rattle.prevalence_store.specs.calls.Store.{StoreView}
use Rattle.prevalence_store.specs.meaning.Acceptance.{Acceptance, accepts, records_of}
use Rattle.session_words.specs.declared.mode.Mode.TheVariants.{Current}
use Rattle.user_macros.specs.Functions.{Functions}

-- The disk was new, the store was opened on it and took this form, which was accepted so.
pub record HasTaken (functions : Functions) {R : Type 0} (disk : MemoryDisk) (store : StoreView MemoryDisk R) (form : List ℕ) (given : Acceptance) : Type 0 where
  pub fresh : IsFresh (state_of disk)
  pub accepted : accepts functions initial Current form ≡ Ok given
  pub world : store.world ≡ Some given.world
  -- a crash at any moment since the disk was new leaves the initial world, or the one after the form
  pub any_moment : (image : Image) → (state_of store.disk).left_since (state_of disk).moment image
      → MeansSome functions initial (records_of given.wrote Current given.text) 0 image
  -- a store that is opened on what a crash leaves now has the world after the form
  pub reopened : (crashed opened : MemoryDisk) (now : WorldState)
      → (state_of store.disk).left_since (state_of store.disk).moment (state_of crashed).reads
      → Reopens functions (state_of crashed) (state_of opened) now → now ≡ given.world

-- The later store was opened on what a crash left of the disk of the other one.
pub record HasReopened (functions : Functions) {R : Type 0} (store later : StoreView MemoryDisk R) : Type 0 where
  pub crashed : MemoryDisk
  pub world : WorldState
  pub might : (state_of store.disk).left_since (state_of store.disk).moment (state_of crashed).reads
  pub reopens : Reopens functions (state_of crashed) (state_of later.disk) world
  pub known : later.world ≡ Some world
