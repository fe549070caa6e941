-- A machine whose disks are honest as they are opened.
use Rattle.std.proofs.Common.{◌≡◌, ◌≤◌, ◌⊎◌, ℕ, Bool, true, false, IsTrue, List, length, Option, Result, Ok, sym, subst, inl, inr}
use Rattle.clap.specs.Words.{Text}
use Rattle.command_words.specs.declared.words.Task.TheVariants.{Run}
use Rattle.disk_trait.specs.Disk.{Image, IsHonest, State}
use Rattle.disk_trait.specs.declared.host.HostError.{HostError}
use Rattle.disk_trait.specs.declared.host.IfMissing.{IfMissing}
use Rattle.disk_trait.specs.declared.host.IfMissing.TheVariants.{Make, Refuse}
use Rattle.sessions.specs.declared.ending.Ended.{Ended}
use Rattle.machine_tests.specs.Machine.{FindsAnswered, IsHonestMachine, IsThereByThen, account_of_session, calls_of_session}
use Rattle.session_ledger.specs.OutgoingLines.{disk_after_lines}
use Rattle.session_words.specs.declared.wanted.SessionOptions.{SessionOptions}
use Rattle.store_commands.specs.Commands.{DoesAfter, AreStreamsUntouched, OpensFolder, IsStatusOfUnopenedStore}
use Rattle.store_commands.specs.Folders.{OpensStore}
use Rattle.store_commands.specs.Session.{IsSession}
use Rattle.store_commands.specs.declared.status.Status.{Status}
use Rattle.store_commands.specs.declared.told.Remark.{Remark}
use Rattle.store_laws.specs.Batches.{MeansCalls}
use Rattle.user_macros.specs.Functions.{Functions}

-- so is a disk in which a store was looked for
pub honest_as_opened : {D : Type 0} (state : D → State) (tells : D → Option HostError → Type 0) (opens : Text → IfMissing → Result D HostError → Type 0) (folder : Text) (existing : Bool) (disk : D)
    → IsHonestMachine state opens → OpensStore state tells opens folder existing (Ok disk) → IsHonest (state disk)
honest_as_opened state tells opens folder false disk machine opened = machine folder Make disk opened
honest_as_opened state tells opens folder true disk machine (first, opened, looks) = subst IsTrue (sym looks.counts.honest) (machine folder Refuse first opened)

-- what follows of a disk that was opened
module _ {D I O : Type 0} (input left : I) (held written : O) (opens : Text → Bool → Result D HostError → Type 0) (P Q : D → Type 0) (folder : Text) (existing : Bool) (status : Status) (told : Remark) where
  pub opened_so : ((disk : D) → opens folder existing (Ok disk) → P disk → Q disk)
      → OpensFolder input left held written opens P folder existing status told → OpensFolder input left held written opens Q folder existing status told
  opened_so follows (inl early) = inl early
  opened_so follows (inr (inl failed)) = inr (inl failed)
  opened_so follows (inr (inr (disk, opened, known))) = inr (inr (disk, opened, follows disk opened known))

module _ (functions : Functions) (wanted : SessionOptions) {D R I O : Type 0} (state : D → State) (macros : R) (whole : Bool) (remaining : I → Option (List ℕ)) (contents : O → Option (List ℕ))
    (input left : I) (held written : O) (status : Status) (told : Remark) (disk : D) where
  abbrev Session : D → Ended → Type 0
  Session back ended = IsSession functions wanted state disk macros (remaining input) (remaining left) (contents held) (contents written) ended back

  abbrev Law : (back : D) (ended : Ended) → Session back ended → Type 0
  Law back ended session =
      (k : ℕ) → k ≤ length session.went.out.sent → (image : Image)
      → (state back).left_since (state (disk_after_lines (account_of_session functions wanted state session) session.went.out.sent k)).moment image
      → MeansCalls functions session.is_opened.world (calls_of_session functions wanted state session) k image

  -- `run` over that disk
  pub there_after : IsHonest (state disk) → ((back : D) (ended : Ended) (session : Session back ended) → Law back ended session)
      → ((back : D) (ended : Ended) (session : Session back ended) → FindsAnswered functions R state disk session.is_opened.world)
      → DoesAfter functions state macros whole remaining contents input left held written (Run wanted) status told disk
      → IsThereByThen functions wanted state macros (remaining input) (remaining left) (contents held) (contents written) disk
      ⊎ ((back : D) × IsStatusOfUnopenedStore functions state disk back whole status × AreStreamsUntouched input left held written)
  there_after honest law finds (back, inl (ended, after, tells, session)) = inl (record {
    back = back;
    ended = ended;
    session = session;
    found = finds back ended session;
    opening = (session.is_opened.reopens honest).any_moment;
    there = λ k image left. law back ended session k left.0 image left.1;
  })
  there_after honest law finds (back, inr (tells, same)) = inr (back, tells, same)
