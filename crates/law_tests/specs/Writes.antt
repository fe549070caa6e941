-- A half of version 3 between two writes: what stands behind the front of its batches.
use Rattle.std.specs.Prelude.{◌≡◌, ℕ, List, length}
use Rattle.disk_trait.specs.Disk.{Image, State}
use Rattle.gate_log.specs.Layout.{Contents, LogRecord}
use Rattle.batched_half.specs.Version3.{HoldsBatches, IsBeforeMark, BeginsWithNoMark, batches_front, mark_of_one_sync, mark_of_two_syncs}

-- kept with two syncs: a closed gate stands at this offset
pub record EndsClosed (k : Contents) (at : ℕ) (file : List ℕ) : Type 0 where
  pub held : HoldsBatches k file
  pub two : held.manner.mark ≡ mark_of_two_syncs
  pub closed : BeginsWithNoMark held.behind
  pub at_end : at ≡ length (batches_front k held.manner held.followed held.batches)

-- kept with two syncs: these records stand behind the closed gate at this offset, which is to become their mark
pub record IsBehindGate (k : Contents) (at : ℕ) (entries : List LogRecord) (file : List ℕ) : Type 0 where
  pub held : HoldsBatches k file
  pub two : held.manner.mark ≡ mark_of_two_syncs
  pub rest : List ℕ
  pub before : IsBeforeMark (batches_front k held.manner held.followed held.batches) entries rest file
  pub at_end : at ≡ length (batches_front k held.manner held.followed held.batches)

-- kept with one sync: so many bytes stand from this offset to the end of the file, where a crash left them of a batch
pub record HasLeftBehind (k : Contents) (at count : ℕ) (file : List ℕ) : Type 0 where
  pub held : HoldsBatches k file
  pub one : held.manner.mark ≡ mark_of_one_sync
  pub at_end : at ≡ length (batches_front k held.manner held.followed held.batches)
  pub left : count ≡ length held.behind

-- such a half A is left by a crash of a disk in this state
abbrev pub LeavesHalf : State → (List ℕ → Type 0) → Type 0
LeavesHalf disk IsHalf = (image : Image) → disk.may_leave image → IsHalf image.a
