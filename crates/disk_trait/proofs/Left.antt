-- What a crash of each kind leaves is one of the images that a crash may leave.
use Rattle.std.proofs.Common.{◌≡◌, inl, inr, IsTrue, ℕ, zero, suc, ◌-◌, ◌<◌, List, [], ◌∷◌, ◌++◌, length, take, replicate, refl, subst, arith, sym, ◌∙◌, ap, ◌+◌, length-append, length-take, length-drop, drop, get_or, ◌⊎◌, nat_lt, if◌then◌else◌, true, false, Bool, ◌*◌, ◌%◌}
use Rattle.std.proofs.lemmas.List.{length-replicate}
use Rattle.disk_trait.specs.Disk.{Image, AreBytes, written, Torn, Mixed, TornCut}
use Rattle.disk_trait.specs.Mixes.{merged_mixed, whole_mixed, mixed_torn}
use Rattle.std.proofs.lemmas.List.{get_or-drop}
use Rattle.std.proofs.lemmas.Bool.{and_parts}
use Rattle.disk_trait.specs.Replay.{FileState, settled_file, after_what, where_same, after_call, after_calls, MayLeave, are_bytes, writes_bytes, began_with_bytes, wrote_bytes}
use Rattle.disk_trait.specs.ReplayBytes.{LeavesBytes, bytes_tested, bytes_what, bytes_where, settled_bytes}
use Rattle.disk_trait.specs.ReplayLaws.{Stays, stay, stay_what, stay_where, whole_cut}
use Rattle.disk_trait.specs.Crash.{FillsBytes, scattered_bytes, torn_after, mixed_after, cut_after, bytes_left_after, on_same, left_by_calls, left_by}
use Rattle.disk_trait.specs.declared.call.DiskCall.{DiskCall}
use Rattle.disk_trait.specs.declared.call.What.{What}
use Rattle.disk_trait.specs.declared.call.What.TheVariants.{Looked, Wrote, WroteMixing, Shortened, Synced}
use Rattle.disk_trait.specs.declared.crash.Crash.{Crash}
use Rattle.disk_trait.specs.declared.crash.Crash.TheVariants.{Kept, Lost, Filled, Scattered}
use Rattle.disk_trait.specs.declared.half.Half.{Half}
use Rattle.disk_trait.specs.declared.half.Half.TheVariants.{A, B}

filled_are : (n byte : ℕ) → byte < 256 → AreBytes (replicate n byte)
filled_are zero byte small = tt
filled_are (suc n) byte small = (small, filled_are n byte small)

pub whole_write : (at : ℕ) (bytes old : List ℕ) → AreBytes bytes → Torn at (length bytes) old (written at bytes old)
whole_write at bytes old are = record {
  middle = bytes;
  bytes = are;
  parts = refl;
  no_shorter = omega (arith, size, length-take at old, length-drop (at + length bytes) old);
  no_longer = omega (arith, size, length-take at old, length-drop (at + length bytes) old);
}
  where
    size : length (written at bytes old) ≡ length (take at old) + length bytes + length (drop (at + length bytes) old)
    size = length-append (take at old ++ bytes) (drop (at + length bytes) old) ∙ ap (λ n. n + length (drop (at + length bytes) old)) (length-append (take at old) bytes)

filled_write : (at n byte : ℕ) (left : List ℕ) → byte < 256 → Torn at n left (written at (replicate n byte) left)
filled_write at n byte left small =
    subst (λ (m : ℕ). Torn at m left (written at (replicate n byte) left)) (length-replicate n byte)
    (whole_write at (replicate n byte) left (filled_are n byte small))

filled_cut : (len byte : ℕ) (left : List ℕ) → byte < 256 → TornCut len left (take len left ++ replicate (length left - len) byte)
filled_cut len byte left small = record {
  middle = replicate (length left - len) byte;
  bytes = filled_are (length left - len) byte small;
  parts = refl;
  no_longer = omega (arith, length-append (take len left) (replicate (length left - len) byte), length-take len left, length-replicate (length left - len) byte);
}

scattered_long : (share place : ℕ) (bytes old : List ℕ) → length (scattered_bytes share place bytes old) ≡ length bytes
unfolding scattered_bytes
scattered_long share place [] old = refl
scattered_long share place (b ∷ bs) old = ap suc (scattered_long share (suc place) bs old)

one_or_other : (is_new : Bool) (new old : ℕ) → ((if is_new then new else old) ≡ new) ⊎ ((if is_new then new else old) ≡ old)
one_or_other true new old = inl refl
one_or_other false new old = inr refl

scattered_each : (share place : ℕ) (bytes old : List ℕ) (i : ℕ) → i < length (scattered_bytes share place bytes old)
    → (get_or (scattered_bytes share place bytes old) i 0 ≡ get_or bytes i 0) ⊎ (get_or (scattered_bytes share place bytes old) i 0 ≡ get_or old (place + i) 0)
unfolding scattered_bytes
scattered_each share place [] old i within = absurd (omega (arith, within))
scattered_each share place (b ∷ bs) old zero within =
    subst (λ (n : ℕ). ((if nat_lt (place % 256 * 37 % 256) share then b else get_or old place 0) ≡ b) ⊎ ((if nat_lt (place % 256 * 37 % 256) share then b else get_or old place 0) ≡ get_or old n 0))
    (omega arith) (one_or_other (nat_lt (place % 256 * 37 % 256) share) b (get_or old place 0))
scattered_each share place (b ∷ bs) old (suc i) within =
    subst (λ (n : ℕ). (get_or (scattered_bytes share (suc place) bs old) i 0 ≡ get_or bs i 0) ⊎ (get_or (scattered_bytes share (suc place) bs old) i 0 ≡ get_or old n 0))
    (omega arith) (scattered_each share (suc place) bs old i (omega (arith, within)))

scattered_mixed : (share at : ℕ) (bytes left : List ℕ) → Mixed at bytes left (written at (scattered_bytes share 0 bytes (drop at left)) left)
scattered_mixed share at bytes left =
    let some = scattered_bytes share 0 bytes (drop at left) in
    merged_mixed at bytes some left (scattered_long share 0 bytes (drop at left)) (λ i within.
    subst (λ (x : ℕ). (get_or some i 0 ≡ get_or bytes i 0) ⊎ (get_or some i 0 ≡ x)) (get_or-drop at left (0 + i) 0 ∙ ap (λ (n : ℕ). get_or left n 0) (omega arith)) (scattered_each share 0 bytes (drop at left) i within))

left_write : (kind : Crash) (at : ℕ) (bytes left : List ℕ) → FillsBytes kind → AreBytes bytes → AreBytes left
    → (torn_after kind at bytes left ≡ left) ⊎ (Torn at (length bytes) left (torn_after kind at bytes left) ⊎ (torn_after kind at bytes left ≡ written at bytes left))
left_write Kept at bytes left small are were = inr (inr refl)
left_write Lost at bytes left small are were = inl refl
left_write (Filled byte) at bytes left small are were = inr (inl (filled_write at (length bytes) byte left small))
left_write (Scattered share) at bytes left small are were = inr (inl (mixed_torn at bytes left _ are were (scattered_mixed share at bytes left)))

left_mixing : (kind : Crash) (at : ℕ) (bytes left : List ℕ) → (mixed_after kind at bytes left ≡ left) ⊎ Mixed at bytes left (mixed_after kind at bytes left)
left_mixing Kept at bytes left = inr (whole_mixed at bytes left)
left_mixing Lost at bytes left = inl refl
left_mixing (Filled byte) at bytes left = inr (whole_mixed at bytes left)
left_mixing (Scattered share) at bytes left = inr (scattered_mixed share at bytes left)

left_cut : (kind : Crash) (len : ℕ) (left : List ℕ) → FillsBytes kind → (cut_after kind len left ≡ left) ⊎ TornCut len left (cut_after kind len left)
left_cut Kept len left small = inr (whole_cut len left)
left_cut Lost len left small = inl refl
left_cut (Filled byte) len left small = inr (filled_cut len byte left small)
left_cut (Scattered share) len left small = inl refl

left_what : (kind : Crash) (what : What) (p : FileState) (left : List ℕ) → FillsBytes kind → IsTrue (writes_bytes what) → AreBytes left → Stays p → p.may_leave left
    → (after_what what p).may_leave (bytes_left_after kind what p.reads left)
left_what kind Looked p left small writes were stays may = ((left, may, inl refl), tt)
left_what kind Synced p left small writes were stays may = ((p.reads, stays, inl refl), refl)
left_what kind (Wrote at bytes) p left small writes were stays may = ((left, may, left_write kind at bytes.items left small (bytes_tested bytes.items writes) were), tt)
left_what kind (WroteMixing at bytes) p left small writes were stays may = ((left, may, left_mixing kind at bytes.items left), tt)
left_what kind (Shortened len) p left small writes were stays may = ((left, may, left_cut kind len left small), tt)

left_where : (half on : Half) (p q : FileState) (first second : List ℕ) → p.may_leave first → q.may_leave second → (where_same half on p q).may_leave (on_same half on first second)
left_where A A p q first second one other = one
left_where A B p q first second one other = other
left_where B A p q first second one other = other
left_where B B p q first second one other = one

reads_where : (half on : Half) (p q : FileState) → (where_same half on p q).reads ≡ on_same half on p.reads q.reads
reads_where A A p q = refl
reads_where A B p q = refl
reads_where B A p q = refl
reads_where B B p q = refl

swept_left : (kind : Crash) (half : Half) (calls : List DiskCall) (p : FileState) (left : List ℕ) → FillsBytes kind → IsTrue (wrote_bytes calls) → LeavesBytes p → Stays p → p.may_leave left
    → (after_calls half calls p).may_leave (left_by_calls kind half calls p.reads left)
swept_left kind half [] p left small wrote leaves stays may = may
swept_left kind half (call ∷ calls) p left small wrote leaves stays may =
    let parts = and_parts (writes_bytes call.what) (wrote_bytes calls) wrote in
    let next = after_call half call p in
    let next_left = on_same half call.half (bytes_left_after kind call.what p.reads left) left in
    subst (λ (file : List ℕ). (after_calls half calls next).may_leave (left_by_calls kind half calls file next_left)) (reads_where half call.half (after_what call.what p) p)
    (swept_left kind half calls next next_left small parts.1 (bytes_where half call.half (after_what call.what p) p (bytes_what call.what p parts.0 leaves) leaves)
    (stay_where half call.half (after_what call.what p) p (stay_what call.what p stays) stays)
    (left_where half call.half (after_what call.what p) p (bytes_left_after kind call.what p.reads left) left (left_what kind call.what p left small parts.0 (leaves left may) stays may) may))

left_by_may : (kind : Crash) (half : Half) (calls : List DiskCall) (start : List ℕ) → FillsBytes kind → IsTrue (wrote_bytes calls) → AreBytes start → (after_calls half calls (settled_file start)).may_leave (left_by kind half calls start)
left_by_may Kept half calls start small wrote are = stay half calls (settled_file start) refl
left_by_may Lost half calls start small wrote are = swept_left Lost half calls (settled_file start) start tt wrote (settled_bytes start are) refl refl
left_by_may (Filled byte) half calls start small wrote are = swept_left (Filled byte) half calls (settled_file start) start small wrote (settled_bytes start are) refl refl
left_by_may (Scattered share) half calls start small wrote are = swept_left (Scattered share) half calls (settled_file start) start tt wrote (settled_bytes start are) refl refl

pub image_may : (kind : Crash) (start : Image) (calls : List DiskCall) (c : Image) → FillsBytes kind → IsTrue (began_with_bytes start) → IsTrue (wrote_bytes calls) → c ≡ record { a = left_by kind A calls start.a; b = left_by kind B calls start.b } → MayLeave start calls c
image_may kind start calls c small began wrote is =
    let parts = and_parts (are_bytes start.a) (are_bytes start.b) began in
    subst (MayLeave start calls) (sym is) (left_by_may kind A calls start.a small wrote (bytes_tested start.a parts.0), left_by_may kind B calls start.b small wrote (bytes_tested start.b parts.1))
