-- The files of a disk in memory, after one call more.
use Rattle.std.proofs.Common.{◌≡◌, inl, inr, ⊎_elim, ℕ, Bool, true, false, List, ◌++◌, length, sym, ◌∙◌, ap, subst, if◌then◌else◌, IsTrue, arith}
use Rattle.std.specs.Global.{Vec}
use Rattle.disk_trait.specs.Disk.{Image, State, AreBytes, HoldsBytes, IsSoundDisk, Allows, Changes, Mixed, Torn, file_of, other_of, written, OnHalf, Partly}
use Rattle.disk_trait.specs.Memory.{WriteLeaves, TakesWrite}
use Rattle.disk_trait.specs.Mixes.{mixed_torn, whole_mixed}
use Rattle.disk_trait.specs.Replay.{PartOf, reads_after, state_after_calls, FollowsOneCall, writes_bytes, wrote_bytes}
use Rattle.disk_trait.specs.declared.call.DiskCall.{DiskCall}
use Rattle.disk_trait.specs.declared.call.What.{What}
use Rattle.disk_trait.specs.declared.call.What.TheVariants.{Wrote, WroteMixing}
use Rattle.disk_trait.specs.declared.half.Half.{Half}
use Rattle.disk_trait.specs.declared.half.Half.TheVariants.{A, B}
use Rattle.disk_trait.specs.ReplayBytes.{wrote_more}
use Rattle.disk_trait.proofs.Left.{whole_write}
use Rattle.disk_trait.proofs.Next.{one, next_is}

module _ (half at : Half) (what : What) (old new : State) (follows : FollowsOneCall half what old new) where
  pub put_in : (next : List ℕ) → half ≡ at → next ≡ reads_after what (file_of half old.reads) → file_of at new.reads ≡ next
  put_in next is put = subst (λ (h : Half). file_of h new.reads ≡ next) is (follows.changed ∙ sym put)

  pub kept_beside : half ≡ at → other_of at new.reads ≡ other_of at old.reads
  kept_beside is = subst (λ (h : Half). other_of h new.reads ≡ other_of h old.reads) is follows.other

kept : (half at : Half) (what : What) (old new : State) → ((file : List ℕ) → reads_after what file ≡ file) → FollowsOneCall half what old new → file_of at new.reads ≡ file_of at old.reads
kept A A what old new keeps follows = follows.changed ∙ keeps old.reads.a
kept A B what old new keeps follows = follows.other
kept B A what old new keeps follows = follows.other
kept B B what old new keeps follows = follows.changed ∙ keeps old.reads.b

-- a call that leaves its file as it is, taken or not
pub kept_either : (mixes taken : Bool) (half at : Half) (what : What) (start : Image) (calls later : List DiskCall) (failures : ℕ) → ((file : List ℕ) → reads_after what file ≡ file) → later ≡ (if taken then calls ++ one half what else calls) → file_of at (state_after_calls mixes start later failures).reads ≡ file_of at (state_after_calls mixes start calls failures).reads
kept_either mixes true half at what start calls later failures keeps is = kept half at what (state_after_calls mixes start calls failures) (state_after_calls mixes start later failures) keeps (next_is mixes start calls later half what failures failures is)
kept_either mixes false half at what start calls later failures keeps is = ap (λ (l : List DiskCall). file_of at (state_after_calls mixes start l failures).reads) is

-- what the calls wrote is bytes, with this call too
pub wrote_push : (calls later : List DiskCall) (half : Half) (what : What) → IsTrue (wrote_bytes calls) → IsTrue (writes_bytes what) → later ≡ calls ++ one half what → IsTrue (wrote_bytes later)
wrote_push calls later half what wrote writes is =
    subst (λ (l : List DiskCall). IsTrue (wrote_bytes l)) (sym is) (wrote_more calls (record { half = half; what = what }) wrote writes)

pub wrote_either : (taken : Bool) (calls later : List DiskCall) (half : Half) (what : What) → IsTrue (wrote_bytes calls) → IsTrue (writes_bytes what) → later ≡ (if taken then calls ++ one half what else calls) → IsTrue (wrote_bytes later)
wrote_either true calls later half what wrote writes is = wrote_push calls later half what wrote writes is
wrote_either false calls later half what wrote writes is = subst (λ (l : List DiskCall). IsTrue (wrote_bytes l)) (sym is) wrote

-- a step that is a part of a call, undone or taken
pub partly : (half : Half) (step : List ℕ → List ℕ → Type 0) (what : What) (d c : Image) → ((old new : List ℕ) → step old new → PartOf what old new) → Partly (OnHalf half step) d c → Partly (OnHalf half (PartOf what)) d c
partly half step what d c part (inl same) = inl same
partly half step what d c part (inr taken) = inr (record { changed = part (file_of half d) (file_of half c) taken.changed; other = taken.other })

-- ---- a write, by whether the disk mixes

module _ (half : Half) (at : ℕ) (bytes : List ℕ) (stored : Vec ℕ) (old new : State) (is : stored.items ≡ bytes) where
  mixing_part : (d c : Image) → Partly (OnHalf half (PartOf (WroteMixing at stored))) d c → Partly (OnHalf half (Mixed at bytes)) d c
  mixing_part d c (inl same) = inl same
  mixing_part d c (inr taken) = inr (record { changed = subst (λ (l : List ℕ). Mixed at l (file_of half d) (file_of half c)) is taken.changed; other = taken.other })

  tearing_part : AreBytes bytes → (d c : Image) → Partly (OnHalf half (PartOf (Wrote at stored))) d c → Partly (OnHalf half (Torn at (length bytes))) d c
  tearing_part are d c (inl same) = inl same
  tearing_part are d c (inr taken) = inr (record { changed = ⊎_elim torn whole taken.changed; other = taken.other })
    where
      torn : Torn at (length stored.items) (file_of half d) (file_of half c) → Torn at (length bytes) (file_of half d) (file_of half c)
      torn t = subst (λ (l : List ℕ). Torn at (length l) (file_of half d) (file_of half c)) is t

      whole : file_of half c ≡ written at stored.items (file_of half d) → Torn at (length bytes) (file_of half d) (file_of half c)
      whole w = subst (Torn at (length bytes) (file_of half d)) (sym (w ∙ ap (λ (l : List ℕ). written at l (file_of half d)) is)) (whole_write at bytes (file_of half d) are)

  pub takes_mixing : old.mixes ≡ true → FollowsOneCall half (WroteMixing at stored) old new → TakesWrite half at bytes old new
  takes_mixing mixing follows = record {
    tears = subst (λ (b : Bool). Changes (OnHalf half (WriteLeaves b at bytes)) old new) (sym mixing) (record {
      reads = inr (record { changed = subst (Mixed at bytes (file_of half old.reads)) (sym now) (whole_mixed at bytes (file_of half old.reads)); other = follows.other });
      crash = λ c left. let before = follows.crash c left in (before.0, before.1, mixing_part before.0 c before.2);
      time = follows.time;
    });
    done = record { changed = now; other = follows.other };
  }
    where
      now : file_of half new.reads ≡ written at bytes (file_of half old.reads)
      now = follows.changed ∙ ap (λ (l : List ℕ). written at l (file_of half old.reads)) is

  pub takes_tearing : AreBytes bytes → old.mixes ≡ false → FollowsOneCall half (Wrote at stored) old new → TakesWrite half at bytes old new
  takes_tearing are tears follows = record {
    tears = subst (λ (b : Bool). Changes (OnHalf half (WriteLeaves b at bytes)) old new) (sym tears) (record {
      reads = inr (record { changed = subst (Torn at (length bytes) (file_of half old.reads)) (sym now) (whole_write at bytes (file_of half old.reads) are); other = follows.other });
      crash = λ c left. let before = follows.crash c left in (before.0, before.1, tearing_part are before.0 c before.2);
      time = follows.time;
    });
    done = record { changed = now; other = follows.other };
  }
    where
      now : file_of half new.reads ≡ written at bytes (file_of half old.reads)
      now = follows.changed ∙ ap (λ (l : List ℕ). written at l (file_of half old.reads)) is

  pub allows_mixing : old.mixes ≡ true → FollowsOneCall half (WroteMixing at stored) old new → Allows (OnHalf half (WriteLeaves old.mixes at bytes)) old new
  allows_mixing mixing follows = subst (λ (b : Bool). Allows (OnHalf half (WriteLeaves b at bytes)) old new) (sym mixing)
      (λ d c left step. follows.allows d c left
      (partly half (Mixed at bytes) (WroteMixing at stored) d c (λ o n part. subst (λ (l : List ℕ). Mixed at l o n) (sym is) part) step) tt)

  pub allows_tearing : old.mixes ≡ false → FollowsOneCall half (Wrote at stored) old new → Allows (OnHalf half (WriteLeaves old.mixes at bytes)) old new
  allows_tearing tears follows = subst (λ (b : Bool). Allows (OnHalf half (WriteLeaves b at bytes)) old new) (sym tears)
      (λ d c left step. follows.allows d c left
      (partly half (Torn at (length bytes)) (Wrote at stored) d c (λ o n torn. inl (subst (λ (l : List ℕ). Torn at (length l) o n) (sym is) torn)) step) tt)

-- what a mixing write takes, a torn one takes too, of files that hold bytes
pub torn_of_mixed : (half : Half) (at : ℕ) (bytes : List ℕ) (old new : State) → AreBytes bytes → HoldsBytes old.reads → ((c : Image) → old.may_leave c → HoldsBytes c)
    → Changes (OnHalf half (Mixed at bytes)) old new → Changes (OnHalf half (Torn at (length bytes))) old new
torn_of_mixed half at bytes old new are reads leaves changes = record {
  reads = tear old.reads new.reads reads changes.reads;
  crash = λ c left. let before = changes.crash c left in (before.0, before.1, tear before.0 c (leaves before.0 before.1) before.2);
  time = changes.time;
}
  where
    file_bytes : (half : Half) (image : Image) → HoldsBytes image → AreBytes (file_of half image)
    file_bytes A image holds = holds.0
    file_bytes B image holds = holds.1

    tear : (d c : Image) → HoldsBytes d → Partly (OnHalf half (Mixed at bytes)) d c → Partly (OnHalf half (Torn at (length bytes))) d c
    tear d c holds (inl same) = inl same
    tear d c holds (inr step) = inr (record { changed = mixed_torn at bytes (file_of half d) (file_of half c) are (file_bytes half d holds) step.changed; other = step.other })

-- of a write that was taken: it was torn, whether the disk mixes or not; and it was mixed, where it does
pub taken_torn : (half : Half) (at : ℕ) (bytes : List ℕ) (old new : State) → AreBytes bytes → IsSoundDisk old → TakesWrite half at bytes old new → Changes (OnHalf half (Torn at (length bytes))) old new
taken_torn half at bytes old new are sound takes = by old.mixes takes.tears
  where
    leaves : (c : Image) → old.may_leave c → HoldsBytes c
    leaves c left = sound.bytes old.moment c (sound.counts_now old.moment c (omega arith) left)

    by : (mixes : Bool) → Changes (OnHalf half (WriteLeaves mixes at bytes)) old new → Changes (OnHalf half (Torn at (length bytes))) old new
    by false changes = changes
    by true changes = torn_of_mixed half at bytes old new are (leaves old.reads sound.reads_stay) leaves changes

pub taken_mixed : (half : Half) (at : ℕ) (bytes : List ℕ) (old new : State) → IsTrue old.mixes → TakesWrite half at bytes old new → Changes (OnHalf half (Mixed at bytes)) old new
taken_mixed half at bytes old new mixing takes = by old.mixes mixing takes.tears
  where
    by : (mixes : Bool) → IsTrue mixes → Changes (OnHalf half (WriteLeaves mixes at bytes)) old new → Changes (OnHalf half (Mixed at bytes)) old new
    by false is changes = absurd (cc)
    by true is changes = changes
