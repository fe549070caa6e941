-- How a disk that is told from its calls stands between two of them.
use Rattle.std.proofs.Common.{inl, inr, ℕ, Bool, IsTrue, List, [], ◌∷◌, length, take, refl, sym, subst, arith, append-nil, length-take}
use Rattle.std.proofs.lemmas.List.{take_all}
use Rattle.disk_trait.specs.Disk.{Image, TornCut, IsSoundDisk}
use Rattle.disk_trait.specs.Mixes.{whole_mixed}
use Rattle.disk_trait.specs.Replay.{FileState, settled_file, after_what, where_same, after_call, after_calls, MayLeave, state_after_calls, began_with_bytes, wrote_bytes}
use Rattle.disk_trait.specs.ReplayBytes.{left_bytes}
use Rattle.disk_trait.specs.declared.call.DiskCall.{DiskCall}
use Rattle.disk_trait.specs.declared.call.What.{What}
use Rattle.disk_trait.specs.declared.call.What.TheVariants.{Looked, Wrote, WroteMixing, Shortened, Synced}
use Rattle.disk_trait.specs.declared.half.Half.{Half}
use Rattle.disk_trait.specs.declared.half.Half.TheVariants.{A, B}

-- a crash may leave what a read gives
abbrev pub Stays : FileState → Type 0
Stays p = p.may_leave p.reads

pub whole_cut : (len : ℕ) (file : List ℕ) → TornCut len file (take len file)
whole_cut len file = record { middle = []; bytes = tt; parts = sym (append-nil (take len file)); no_longer = omega (arith, length-take len file) }

pub stay_what : (what : What) (p : FileState) → Stays p → Stays (after_what what p)
stay_what Looked p stays = ((p.reads, stays, inl refl), tt)
stay_what (Wrote at bytes) p stays = ((p.reads, stays, inr (inr refl)), tt)
stay_what (WroteMixing at bytes) p stays = ((p.reads, stays, inr (whole_mixed at bytes.items p.reads)), tt)
stay_what (Shortened len) p stays = ((p.reads, stays, inr (whole_cut len p.reads)), tt)
stay_what Synced p stays = ((p.reads, stays, inl refl), refl)

pub stay_where : (half other : Half) (p q : FileState) → Stays p → Stays q → Stays (where_same half other p q)
stay_where A A p q first second = first
stay_where A B p q first second = second
stay_where B A p q first second = second
stay_where B B p q first second = first

pub stay : (half : Half) (calls : List DiskCall) (p : FileState) → Stays p → Stays (after_calls half calls p)
stay half [] p stays = stays
stay half (call ∷ calls) p stays = stay half calls (after_call half call p) (stay_where half call.half (after_what call.what p) p (stay_what call.what p stays) stays)

-- a disk whose state is told from its calls is sound
pub sound_told : (mixes : Bool) (start : Image) (calls : List DiskCall) (failures : ℕ) → IsTrue (began_with_bytes start) → IsTrue (wrote_bytes calls) → IsSoundDisk (state_after_calls mixes start calls failures)
sound_told mixes start calls failures began wrote = record {
  reads_stay = (stay A calls (settled_file start.a) refl, stay B calls (settled_file start.b) refl);
  counts_now = λ t c le left. record {
    moment = length calls;
    not_before = le;
    not_after = omega arith;
    left = subst (λ (l : List DiskCall). MayLeave start l c) (sym (take_all (length calls) calls (omega arith))) left;
  };
  only_now = λ c left. subst (λ (l : List DiskCall). MayLeave start l c) (take_all left.moment calls left.not_before) left.left;
  bytes = λ t c left. left_bytes start calls t c began wrote left;
}
