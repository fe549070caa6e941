-- From what the opening of a folder gave to what is promised of it.
use Rattle.std.proofs.Common.{◌≡◌, ◌≢◌, ◌⊎◌, ◌∙◌, Bool, IsTrue, true, List, Option, ℕ, [], Result, Ok, Err, refl, sym, ap, subst, inl, inr}
use Rattle.clap.specs.Words.{Text}
use Rattle.disk_trait.specs.declared.disk.DeviceFault.{DeviceFault}
use Rattle.disk_trait.specs.declared.host.HostError.{HostError}
use Rattle.disk_trait.specs.declared.host.HostError.TheVariants.{NoName}
use Rattle.disk_trait.specs.declared.host.IfMissing.{IfMissing}
use Rattle.disk_trait.specs.Disk.{IsHonest, State}
use Rattle.session_words.specs.declared.wanted.SessionOptions.{SessionOptions}
use Rattle.user_macros.specs.Functions.{Functions}
use Rattle.store_commands.specs.Commands.{DoesAfter, AreStreamsUntouched, OpensFolder, SitsAfter}
use Rattle.store_commands.specs.Folders.{HoldsStore, LooksWhether, OpensStore}
use Rattle.command_words.specs.declared.words.Task.{Task}
use Rattle.command_words.specs.declared.words.Task.TheVariants.{Export, Run, Snapshot, Tell, Upgrade}
use Rattle.store_commands.specs.Status.{status_of_host}
use Rattle.store_commands.specs.declared.status.Status.{Status}
use Rattle.store_commands.specs.declared.told.Remark.{Remark}
use Rattle.store_commands.specs.declared.told.Remark.TheVariants.{Cause}

module _ {D I O : Type 0} (input left : I) (held written : O) (opens : Text → Bool → Result D HostError → Type 0) (follows : D → Type 0) (folder : Text) (existing : Bool) where
  -- the opening was asked for once, if the folder has a name
  abbrev Opening : Result D HostError → Type 0
  Opening result = ((folder ≡ []) × (result ≡ Err NoName)) ⊎ ((folder ≢ []) × opens folder existing result)

  abbrev Opened : Status → Remark → Type 0
  Opened status told = OpensFolder input left held written opens follows folder existing status told

  pub opening_failed : (result : Result D HostError) (error : HostError) (status : Status) (told : Remark) → result ≡ Err error → Opening result
      → status ≡ status_of_host error → told ≡ Cause error → AreStreamsUntouched input left held written → Opened status told
  opening_failed result error status told is (inl (none, bad)) ends tells same =
      let nameless : error ≡ NoName = cc in inl (inr (inr (none, ends ∙ ap status_of_host nameless)), same)
  opening_failed result error status told is (inr (named, opened)) ends tells same =
      inr (inl (error, subst (opens folder existing) is opened, ends, tells, same))

  pub opening_gave : (result : Result D HostError) (disk : D) (status : Status) (told : Remark) → result ≡ Ok disk → Opening result → follows disk → Opened status told
  opening_gave result disk status told is (inl (none, bad)) after = absurd (cc)
  opening_gave result disk status told is (inr (named, opened)) after =
      inr (inr (disk, subst (opens folder existing) is opened, after))

  -- a folder that was opened has a name
  pub named_by : (result : Result D HostError) (disk : D) → result ≡ Ok disk → Opening result → folder ≡ [] → ⊥
  named_by result disk is (inl (none, bad)) nameless = absurd (cc)
  named_by result disk is (inr (named, opened)) nameless = named nameless

-- a look with this answer
pub looked_so : (old new : State) (result other : Result Bool DeviceFault) → result ≡ other → LooksWhether HoldsStore old new result → LooksWhether HoldsStore old new other
looked_so old new result other is looks = subst (LooksWhether HoldsStore old new) is looks

-- where a store has to exist and the disk is honest, one of both files is an open half
pub existing_is_open : {D : Type 0} (state : D → State) (tells : D → Option HostError → Type 0) (opens : Text → IfMissing → Result D HostError → Type 0) (folder : Text) (disk : D)
    → OpensStore state tells opens folder true (Ok disk) → IsHonest (state disk) → HoldsStore (state disk).reads
existing_is_open state tells opens folder disk (first, opened, looks) honest =
    let was : IsHonest (state first) = subst IsTrue looks.counts.honest honest in
    subst HoldsStore (sym (looks.rests was).reads) ((looks.answer was).0 refl)

-- the same of what is equal
module _ (functions : Functions) {D R : Type 0} (state : D → State) (macros : R) (whole : Bool) {I O : Type 0} (remaining : I → Option (List ℕ)) (contents : O → Option (List ℕ))
    (input left : I) (held written : O) (opens : Text → Bool → Result D HostError → Type 0) (told : Remark) (e f : Text) (m n : Bool) (t u : Task) (s r : Status)
    (same_folder : e ≡ f) (same_existing : m ≡ n) (same_task : t ≡ u) (same_status : s ≡ r) where
  pub moved_opening : OpensFolder input left held written opens (DoesAfter functions state macros whole remaining contents input left held written u r told) f n r told
      → OpensFolder input left held written opens (DoesAfter functions state macros whole remaining contents input left held written t s told) e m s told
  moved_opening given = rw (same_folder, same_existing, same_task, same_status) given

  pub moved_sitting : OpensFolder input left held written opens (SitsAfter functions state macros whole remaining contents input left held written u r told) f n r told
      → OpensFolder input left held written opens (SitsAfter functions state macros whole remaining contents input left held written t s told) e m s told
  moved_sitting given = rw (same_folder, same_existing, same_task, same_status) given

-- at a terminal, of each task
module _ (functions : Functions) {D R : Type 0} (state : D → State) (macros : R) (whole : Bool) {I O : Type 0} (remaining : I → Option (List ℕ)) (contents : O → Option (List ℕ))
    (input left : I) (held written : O) (opens : Text → Bool → Result D HostError → Type 0) (told : Remark) (folder : Text) (existing : Bool) (status : Status) where
  abbrev Sat : Task → Type 0
  Sat task = OpensFolder input left held written opens (SitsAfter functions state macros whole remaining contents input left held written task status told) folder existing status told

  pub sat_in_a_row : (task : Task) (wanted : SessionOptions) → task ≡ Run wanted → Sat (Run wanted) → Sat task
  sat_in_a_row task wanted is sat = subst Sat (sym is) sat

  pub sat_as_anywhere : (task : Task) → ((wanted : SessionOptions) → task ≡ Run wanted → ⊥)
      → OpensFolder input left held written opens (DoesAfter functions state macros whole remaining contents input left held written task status told) folder existing status told → Sat task
  sat_as_anywhere (Run wanted) other done = absurd (other wanted refl)
  sat_as_anywhere Snapshot other done = done
  sat_as_anywhere Upgrade other done = done
  sat_as_anywhere (Export content) other done = done
  sat_as_anywhere (Tell report) other done = done
