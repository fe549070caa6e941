-- What was noted tells of the device, one call after the other.
use Rattle.std.proofs.Common.{◌≡◌, inr, ⊎_elim, Bool, true, IsTrue, ℕ, ◌+◌, ◌≤◌, List, [], ◌∷◌, ◌++◌, length, take, drop, refl, sym, ap, subst, ◌∙◌, arith, Result, Ok, Err, IsOk, IsErr, MatchResult, length-append}
use Rattle.std.proofs.Math.Seq.{take-add}
use Rattle.std.proofs.lemmas.List.{drop-drop, take_all}
use Rattle.disk_trait.specs.Calls.{WritesBytes}
use Rattle.disk_trait.specs.Disk.{Image, Changes, HoldsBytes, OnHalf, State, file_of, written}
use Rattle.disk_trait.specs.Orders.{writes, syncs}
use Rattle.disk_trait.specs.declared.disk.DeviceFault.{DeviceFault}
use Rattle.disk_trait.specs.declared.half.Half.{Half}
use Rattle.disk_trait.specs.declared.half.Half.TheVariants.{A, B}
use Rattle.deferred_disk.specs.Disk.{calls_of, state_by_calls}
use Rattle.deferred_disk.specs.declared.disk.DeferredDisk.{DeferredDisk}
use Rattle.deferred_disk.specs.DiskRequests.{CallsValue, all_of, after_report, first_calls, with_order}
use Rattle.deferred_disk.specs.Sound.{left_bytes, same_file}
use Rattle.deferred_disk.specs.State.{AllWriteBytes, PartOfWrite, image_after, state_after_orders, with_file}
use Rattle.device_disk.specs.DeviceCalls.{DeviceCall, done, gave}
use Rattle.device_disk.specs.DeviceFiles.{FilesAfterBy, IsUnfailed}
use Rattle.device_disk.specs.Pieces.{IsDone, IsDeviceRead, IsDeviceWrittenInPart, IsDeviceWritten, after_reads, after_writes, joined_pieces}
use Rattle.device_disk.specs.Told.{IsToldDisk, Tells, told_by}
use Rattle.device_disk.proofs.Tearing.{HoldsIfTorn, half_both, half_bytes, half_none, half_partly, holds_if_torn, put_same, put_twice, written_both, written_none}

-- ---- a report

pub tells_reported : (mixes : Bool) (calls : CallsValue) (n : ℕ) (made : List DeviceCall) → Tells mixes calls n made → Tells mixes (after_report calls) n made
tells_reported mixes calls n made told = record { unfailed = told.unfailed; holds = told.holds; leaves = told.leaves }

-- ---- a write in pieces

unfailed_writes : (half : Half) (at : ℕ) (pieces : List (List ℕ)) (before : List DeviceCall) → IsUnfailed before → IsUnfailed (after_writes half at pieces before)
unfailed_writes half at [] before is = is
unfailed_writes half at (piece ∷ more) before is = unfailed_writes half (at + length piece) more (done (writes half at piece) ∷ before) is

module _ (mixes : Bool) where
  -- what the files were before it, and that they are as after one write in whole
  abbrev WrittenFrom : (first : Image) (half : Half) (at : ℕ) (bytes : List ℕ) (before : List DeviceCall) (holds left : Image) → Type 0
  WrittenFrom first half at bytes before holds left =
      (earlier : Image × Image) × FilesAfterBy mixes first before earlier.0 earlier.1
      × (holds ≡ with_file half (written at bytes (file_of half earlier.0)) earlier.0) × OnHalf half (PartOfWrite mixes at bytes) earlier.1 left

  pieces_leave : (first : Image) (half : Half) (at : ℕ) (pieces : List (List ℕ)) (before : List DeviceCall) (holds left : Image)
      → ((held old : Image) → FilesAfterBy mixes first before held old → HoldsIfTorn mixes old)
      → FilesAfterBy mixes first (after_writes half at pieces before) holds left → WrittenFrom first half at (joined_pieces pieces) before holds left
  pieces_leave first half at [] before holds left are after = (
    (holds, left),
    after,
    sym (put_same half holds) ∙ ap (λ (file : List ℕ). with_file half file holds) (sym (written_none at (file_of half holds))),
    half_none mixes half at [] left (are holds left after),
  )
  pieces_leave first half at (piece ∷ more) before holds left are after =
      let later : List DeviceCall = done (writes half at piece) ∷ before in
      let in_part : (held old : Image) (were : FilesAfterBy mixes first later held old) → OnHalf half (PartOfWrite mixes at piece) were.0.1 old =
      λ held old were. half_partly mixes half at piece were.0.1 old (are were.0.0 were.0.1 were.1) were.3 in
      let then = pieces_leave first half (at + length piece) more later holds left
      (λ held old were. half_bytes mixes half at piece were.0.1 old (in_part held old were) (are were.0.0 were.0.1 were.1)) after in
      let were = then.1 in
      let file = file_of half were.0.0 in
      let shown : file_of half then.0.0 ≡ written at piece file = ap (file_of half) were.2 ∙ same_file half (written at piece file) were.0.0 in (
        were.0,
        were.1,
        then.2
            ∙ ap (λ (f : List ℕ). with_file half (written (at + length piece) (joined_pieces more) f) then.0.0) shown
            ∙ ap (λ (f : List ℕ). with_file half f then.0.0) (written_both at piece (joined_pieces more) file)
            ∙ ap (with_file half (written at (piece ++ joined_pieces more) file)) were.2
            ∙ put_twice half (written at piece file) (written at (piece ++ joined_pieces more) file) were.0.0,
        half_both mixes half at piece (joined_pieces more) were.0.1 then.0.1 left (in_part then.0.0 then.0.1 were) then.3,
      )

-- all that is left is bytes
left_held : (mixes : Bool) (calls : CallsValue) (n : ℕ) (made : List DeviceCall) → HoldsBytes calls.start → AllWriteBytes (all_of calls) → Tells mixes calls n made
    → (first holds left : Image) → FilesAfterBy mixes first made holds left → HoldsBytes left
left_held mixes calls n made began wrote told first holds left after = left_bytes mixes calls.start (all_of calls) left wrote began (told.leaves first holds left after)

module _ (mixes : Bool) (calls : CallsValue) (half : Half) (at : ℕ) (bytes : List ℕ) (made later : List DeviceCall) (began : HoldsBytes calls.start) (wrote : AllWriteBytes (all_of calls))
    (told : Tells mixes calls 0 made) where
  before_is : (first : Image) (held old : Image) → FilesAfterBy mixes first made held old → HoldsIfTorn mixes old
  before_is first held old after = holds_if_torn mixes old (left_held mixes calls 0 made began wrote told first held old after)

  whole_from : IsDeviceWritten half at bytes made later → (first holds left : Image) → FilesAfterBy mixes first later holds left → WrittenFrom mixes first half at bytes made holds left
  whole_from written_whole first holds left after =
      subst (λ (l : List ℕ). WrittenFrom mixes first half at l made holds left) (sym written_whole.all)
      (pieces_leave mixes first half at written_whole.pieces made holds left (before_is first) (subst (λ (l : List DeviceCall). FilesAfterBy mixes first l holds left) written_whole.calls after))

  pub tells_written : IsDeviceWritten half at bytes made later → Tells mixes (with_order calls (writes half at bytes)) 0 later
  tells_written written_whole = record {
    unfailed = λ none. subst IsUnfailed (sym written_whole.calls) (unfailed_writes half at written_whole.pieces made (told.unfailed refl));
    holds = λ none first holds left after.
        let from = whole_from written_whole first holds left after in
        from.2 ∙ ap (image_after (writes half at bytes)) (told.holds refl first from.0.0 from.0.1 from.1);
    leaves = λ first holds left after.
        let from = whole_from written_whole first holds left after in
        ((from.0.1, told.leaves first from.0.0 from.0.1 from.1, inr from.3), tt);
  }

  -- a front of it was written, and then a part of the rest or nothing
  part_from : (part : IsDeviceWrittenInPart half at bytes made later) (first holds left : Image) → FilesAfterBy mixes first later holds left
      → (earlier : Image × Image) × FilesAfterBy mixes first made earlier.0 earlier.1 × OnHalf half (PartOfWrite mixes at bytes) earlier.1 left
  part_from part first holds left after =
      let front = joined_pieces part.pieces in
      let place = at + length front in
      let before = after_writes half at part.pieces made in
      let pieces : (held old : Image) → FilesAfterBy mixes first before held old → WrittenFrom mixes first half at front made held old =
      λ held old. pieces_leave mixes first half at part.pieces made held old (before_is first) in
      let bytes_of : (held old : Image) → FilesAfterBy mixes first before held old → HoldsIfTorn mixes old =
      λ held old were.
      let from = pieces held old were in half_bytes mixes half at front from.0.1 old from.3 (before_is first from.0.0 from.0.1 from.1) in
      let both : (held mid : Image) → (were : FilesAfterBy mixes first before held mid) → OnHalf half (PartOfWrite mixes place part.rest) mid left
      → (earlier : Image × Image) × FilesAfterBy mixes first made earlier.0 earlier.1 × OnHalf half (PartOfWrite mixes at bytes) earlier.1 left =
      λ held mid were in_part.
      let from = pieces held mid were in (
        from.0,
        from.1,
        subst (λ (l : List ℕ). OnHalf half (PartOfWrite mixes at l) from.0.1 left) (sym part.all) (half_both mixes half at front part.rest from.0.1 mid left from.3 in_part),
      ) in
      ⊎_elim
      (λ given_up.
      let were = subst (λ (l : List DeviceCall). FilesAfterBy mixes first l holds left) given_up after in
      both holds left were (half_none mixes half place part.rest left (bytes_of holds left were)))
      (λ failing.
      let were = subst (λ (l : List DeviceCall). FilesAfterBy mixes first l holds left) failing after in
      both were.0.0 were.0.1 were.1 (half_partly mixes half place part.rest were.0.1 left (bytes_of were.0.0 were.0.1 were.1) were.3))
      part.calls

  pub tells_in_part : IsDeviceWrittenInPart half at bytes made later → Tells mixes (with_order calls (writes half at bytes)) 1 later
  tells_in_part part = record {
    unfailed = λ none. absurd (omega (arith, none));
    holds = λ none. absurd (omega (arith, none));
    leaves = λ first holds left after.
        let from = part_from part first holds left after in
        ((from.0.1, told.leaves first from.0.0 from.0.1 from.1, inr from.2), tt);
  }

-- ---- an opening

reads_shown : (mixes : Bool) (first : Image) (half : Half) (room at : ℕ) (pieces : List (List ℕ)) (before : List DeviceCall) (holds left : Image)
    → FilesAfterBy mixes first (after_reads half room at pieces before) holds left
    → FilesAfterBy mixes first before holds left × (joined_pieces pieces ≡ take (length (joined_pieces pieces)) (drop at (file_of half holds)))
reads_shown mixes first half room at [] before holds left after = (after, refl)
reads_shown mixes first half room at (piece ∷ more) before holds left after =
    let then = reads_shown mixes first half room (at + length piece) more (gave half at room piece ∷ before) holds left after in
    let file = file_of half holds in
    let long : length (piece ++ joined_pieces more) ≡ length piece + length (joined_pieces more) = length-append piece (joined_pieces more) in (
      then.0.0,
      ap (λ (l : List ℕ). l ++ joined_pieces more) then.0.1.there
          ∙ ap (λ (l : List ℕ). take (length piece) (drop at file) ++ l) (then.1 ∙ ap (take (length (joined_pieces more))) (sym (drop-drop (length piece) at file)))
          ∙ sym (take-add (length piece) (length (joined_pieces more)) (drop at file))
          ∙ ap (λ (n : ℕ). take n (drop at file)) (sym long),
    )

unfailed_reads : (half : Half) (room at : ℕ) (pieces : List (List ℕ)) (before : List DeviceCall) → IsUnfailed before → IsUnfailed (after_reads half room at pieces before)
unfailed_reads half room at [] before is = is
unfailed_reads half room at (piece ∷ more) before is = unfailed_reads half room (at + length piece) more (gave half at room piece ∷ before) is

unfailed_whole : (half : Half) (bytes : List ℕ) (before later : List DeviceCall) → IsDeviceRead half bytes before later → IsUnfailed before → IsUnfailed later
unfailed_whole half bytes before later read is = subst IsUnfailed (sym read.calls) (unfailed_reads half read.room 0 read.pieces before is)

whole_shown : (mixes : Bool) (first : Image) (half : Half) (bytes : List ℕ) (before later : List DeviceCall) (holds left : Image)
    → IsDeviceRead half bytes before later → FilesAfterBy mixes first later holds left → FilesAfterBy mixes first before holds left × (bytes ≡ file_of half holds)
whole_shown mixes first half bytes before later holds left read after =
    let were = subst (λ (l : List DeviceCall). FilesAfterBy mixes first l holds left) read.calls after in
    let shown = reads_shown mixes first half read.room 0 read.pieces before holds left were.0 in
    let file = file_of half holds in (
      shown.0,
      read.all ∙ shown.1 ∙ ap (λ (l : List ℕ). take (length l) file) (sym read.all) ∙ take_all (length bytes) file (were.1.end refl read.some),
    )

abbrev image_of : List ℕ → List ℕ → Image
image_of x y = record { a = x; b = y }

same_images : (i : Image) (x y : List ℕ) → i.a ≡ x → i.b ≡ y → i ≡ image_of x y
same_images i x y first second = ap (λ (l : List ℕ). image_of l i.b) first ∙ ap (image_of x) second

-- a device that was synced and read tells what its files hold, and all that a crash leaves of them
pub tells_first : (mixes : Bool) (a b : List ℕ) (earlier synced_a synced_b read_a read_b : List DeviceCall) → IsUnfailed earlier → IsDone (syncs A) earlier synced_a → IsDone (syncs B) synced_a synced_b
    → IsDeviceRead A a synced_b read_a → IsDeviceRead B b read_a read_b → Tells mixes (first_calls a b) 0 read_b
tells_first mixes a b earlier synced_a synced_b read_a read_b fine sync_a sync_b a_read b_read = record {
  unfailed = λ no. unfailed_whole B b read_a read_b b_read (unfailed_whole A a synced_b read_a a_read (subst IsUnfailed (sym sync_b) fine_a));
  holds = λ no first holds left after. (shown first holds left after).0;
  leaves = λ first holds left after. (shown first holds left after).1;
}
  where
    fine_a : IsUnfailed synced_a
    fine_a = subst IsUnfailed (sym sync_a) fine

    shown : (first holds left : Image) → FilesAfterBy mixes first read_b holds left → (holds ≡ image_of a b) × (left ≡ image_of a b)
    shown first holds left after =
        let of_b = whole_shown mixes first B b read_a read_b holds left b_read after in
        let of_a = whole_shown mixes first A a synced_b read_a holds left a_read of_b.0 in
        let second = subst (λ (l : List DeviceCall). FilesAfterBy mixes first l holds left) sync_b of_a.0 in
        let one = subst (λ (l : List DeviceCall). FilesAfterBy mixes first l second.0.0 second.0.1) sync_a second.1 in
        let same : left ≡ second.0.1 = ⊎_elim (λ is. is) (λ part. absurd part) second.3 in
        let held : holds ≡ one.0.0 = second.2 ∙ one.2 in
        let left_a : left.a ≡ a = ap (λ (i : Image). i.a) same ∙ one.4 fine ∙ ap (λ (i : Image). i.a) (sym held) ∙ sym of_a.1 in
        let left_b : left.b ≡ b = second.4 fine_a ∙ ap (λ (i : Image). i.b) (sym second.2) ∙ sym of_b.1 in
        (same_images holds a b (sym of_a.1) (sym of_b.1), same_images left a b left_a left_b)

-- ---- the disk

-- it has noted these calls
pub told_so : (mixes : Bool) (new : DeferredDisk) (calls : CallsValue) (m k : ℕ) (later : List DeviceCall) → new.mixes ≡ mixes → calls_of new ≡ calls → m ≡ k → (state_by_calls new).failures ≤ m
    → Tells mixes calls k later → IsToldDisk new m later
told_so mixes new calls m k later manner same is fewer told = record {
  fewer = fewer;
  tells = subst (λ (b : Bool). Tells b (calls_of new) m later) (sym manner)
      (subst (λ (c : CallsValue). Tells mixes c m later) (sym same) (subst (λ (n : ℕ). Tells mixes calls n later) (sym is) told));
}

-- none has failed so far
pub tells_from_none : (noted : DeferredDisk) (n : ℕ) (made : List DeviceCall) → n ≡ 0 → IsToldDisk noted n made → Tells noted.mixes (calls_of noted) 0 made
tells_from_none noted n made none told = subst (λ (k : ℕ). Tells noted.mixes (calls_of noted) k made) none told.tells

-- all that a crash may leave, where it is known whether writes of the device mix
pub left_told : (noted : DeferredDisk) (n : ℕ) (made : List DeviceCall) (mixes : Bool) → noted.mixes ≡ mixes → IsToldDisk noted n made
    → (first holds left : Image) → FilesAfterBy mixes first made holds left → (state_by_calls noted).may_leave left
left_told noted n made mixes is told first holds left after =
    told.tells.leaves first holds left (subst (λ (b : Bool). FilesAfterBy b first made holds left) (sym is) after)

-- the same of a disk that says that its writes mix
pub left_mixing : (noted : DeferredDisk) (n : ℕ) (made : List DeviceCall) → IsTrue noted.mixes → IsToldDisk noted n made
    → (first holds left : Image) → FilesAfterBy true first made holds left → (state_by_calls noted).may_leave left
left_mixing noted n made is told = left_told noted n made true is told

-- a write was noted, made as far as it went, and ended
pub told_after_write : {T E U F : Type 0} (old mid new : DeferredDisk) (half : Half) (at : ℕ) (bytes : List ℕ) (n m : ℕ) (made later : List DeviceCall) (written : Result T E) (ended : Result U F)
    → n ≡ 0 → mid.mixes ≡ old.mixes → new.mixes ≡ mid.mixes → calls_of mid ≡ with_order (calls_of old) (writes half at bytes) → mid.failures ≡ old.failures
    → MatchResult written (λ _. IsDeviceWritten half at bytes made later) (λ _. IsDeviceWrittenInPart half at bytes made later)
    → MatchResult ended (λ _. IsOk written) (λ _. IsErr written)
    → MatchResult ended (λ _. (calls_of new ≡ after_report (calls_of mid)) × (new.failures ≡ mid.failures)) (λ _. new ≡ mid)
    → MatchResult ended (λ _. m ≡ n) (λ _. m ≡ n + 1)
    → IsToldDisk old n made → IsToldDisk new m later
told_after_write old mid new half at bytes n m made later (Ok _) (Ok _) none manner manner_too noted fails written same ended count told =
    told_so old.mixes new (after_report (with_order (calls_of old) (writes half at bytes))) m 0 later (manner_too ∙ manner) (ended.0 ∙ ap after_report noted) (count ∙ none)
    (omega (arith, ended.1, fails, told.fewer, count))
    (tells_reported old.mixes (with_order (calls_of old) (writes half at bytes)) 0 later
    (tells_written old.mixes (calls_of old) half at bytes made later old.began old.wrote (tells_from_none old n made none told) written))
told_after_write old mid new half at bytes n m made later (Ok _) (Err _) none manner manner_too noted fails written same ended count told = absurd (cc)
told_after_write old mid new half at bytes n m made later (Err _) (Ok _) none manner manner_too noted fails written same ended count told = absurd (cc)
told_after_write old mid new half at bytes n m made later (Err _) (Err _) none manner manner_too noted fails written same ended count told =
    told_so old.mixes new (with_order (calls_of old) (writes half at bytes)) m 1 later (manner_too ∙ manner) (ap calls_of ended ∙ noted) (omega (arith, count, none))
    (omega (arith, ap (λ (disk : DeferredDisk). disk.failures) ended, fails, told.fewer, count))
    (tells_in_part old.mixes (calls_of old) half at bytes made later old.began old.wrote (tells_from_none old n made none told) written)

-- ---- what a write of the disk does to its state

told_changes : {step : Image → Image → Type 0} (old new : State) (n m : ℕ) → Changes step old new → Changes step (told_by old n) (told_by new m)
told_changes old new n m changed = record {
  reads = changed.reads;
  crash = changed.crash;
  time = record { later = changed.time.later; nothing_else = changed.time.nothing_else; keeps = changed.time.keeps; performed = refl; mixes = changed.time.mixes };
}

-- what was noted in whole, whether it was then made or failed
told_write : {T U : Type 0} (half : Half) (at : ℕ) (bytes : List ℕ) (old new : State) (n m : ℕ) (noted : T) (ended : Result U DeviceFault)
    → WritesBytes {T = T} half at bytes old new (Ok noted) → MatchResult ended (λ _. m ≡ n) (λ _. m ≡ n + 1) → WritesBytes {T = U} half at bytes (told_by old n) (told_by new m) ended
told_write half at bytes old new n m noted (Ok _) wrote count = record {
  counts = record { honest = wrote.counts.honest; mixes = wrote.counts.mixes; failures = count };
  tears = λ honest. told_changes old new n m (wrote.tears honest);
  mixes = λ honest mixing. told_changes old new n m (wrote.mixes honest mixing);
  done = wrote.done;
}
told_write half at bytes old new n m noted (Err _) wrote count = record {
  counts = record { honest = wrote.counts.honest; mixes = wrote.counts.mixes; failures = count };
  tears = λ honest. told_changes old new n m (wrote.tears honest);
  mixes = λ honest mixing. told_changes old new n m (wrote.mixes honest mixing);
  done = tt;
}

-- the same after its end, which may have reported it
pub written_told : {T U : Type 0} (old mid new : DeferredDisk) (half : Half) (at : ℕ) (bytes : List ℕ) (n m : ℕ) (noted : T) (ended : Result U DeviceFault)
    → WritesBytes {T = T} half at bytes (state_by_calls old) (state_by_calls mid) (Ok noted) → new.mixes ≡ mid.mixes
    → MatchResult ended (λ _. (calls_of new ≡ after_report (calls_of mid)) × (new.failures ≡ mid.failures)) (λ _. new ≡ mid)
    → MatchResult ended (λ _. m ≡ n) (λ _. m ≡ n + 1)
    → WritesBytes {T = U} half at bytes (told_by (state_by_calls old) n) (told_by (state_by_calls new) m) ended
written_told {T = T} {U = U} old mid new half at bytes n m noted (Ok made) wrote manner same count =
    subst (λ (calls : CallsValue). WritesBytes {T = U} half at bytes (told_by (state_by_calls old) n) (told_by (state_after_orders new.mixes calls new.failures) m) (Ok made)) (sym same.0)
    (subst (λ (b : Bool). WritesBytes {T = U} half at bytes (told_by (state_by_calls old) n) (told_by (state_after_orders b (calls_of mid) mid.failures) m) (Ok made)) (sym manner)
    (told_write half at bytes (state_by_calls old) (state_by_calls mid) n m noted (Ok made) wrote count))
written_told {T = T} {U = U} old mid new half at bytes n m noted (Err fault) wrote manner same count =
    subst (λ (disk : DeferredDisk). WritesBytes {T = U} half at bytes (told_by (state_by_calls old) n) (told_by (state_by_calls disk) m) (Err fault)) (sym same)
    (told_write half at bytes (state_by_calls old) (state_by_calls mid) n m noted (Err fault) wrote count)
