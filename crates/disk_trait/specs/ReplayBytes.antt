-- All that a disk in memory might have left is bytes.
use Rattle.std.proofs.Common.{⊎_elim, ℕ, zero, suc, ◌+◌, ◌<◌, true, List, [], ◌∷◌, ◌++◌, take, drop, length, get_or, IsTrue, refl, sym, subst}
use Rattle.std.specs.Prelude.{nat_lt}
use Rattle.std.proofs.lemmas.Bool.{and_parts, and_from, ltb-true, lt-ltb}
use Rattle.disk_trait.specs.Disk.{Image, AreBytes, HoldsBytes, Torn, TornCut}
use Rattle.disk_trait.specs.Mixes.{mixed_torn}
use Rattle.disk_trait.specs.Replay.{FileState, PartOf, settled_file, after_what, where_same, after_call, after_calls, LeftSince, are_bytes, writes_bytes, began_with_bytes, wrote_bytes}
use Rattle.disk_trait.specs.declared.call.DiskCall.{DiskCall}
use Rattle.disk_trait.specs.declared.call.What.{What}
use Rattle.disk_trait.specs.declared.call.What.TheVariants.{Looked, Wrote, WroteMixing, Shortened, Synced}
use Rattle.disk_trait.specs.declared.half.Half.{Half}
use Rattle.disk_trait.specs.declared.half.Half.TheVariants.{A, B}

-- ---- bytes in lists

pub bytes_tested : (bytes : List ℕ) → IsTrue (are_bytes bytes) → AreBytes bytes
bytes_tested [] all = tt
bytes_tested (b ∷ bs) all = let parts = and_parts (nat_lt b 256) (are_bytes bs) all in (ltb-true b 256 parts.0, bytes_tested bs parts.1)

bytes_taken : (n : ℕ) (bytes : List ℕ) → AreBytes bytes → AreBytes (take n bytes)
bytes_taken zero bytes are = tt
bytes_taken (suc n) [] are = tt
bytes_taken (suc n) (b ∷ bs) are = (are.0, bytes_taken n bs are.1)

bytes_dropped : (n : ℕ) (bytes : List ℕ) → AreBytes bytes → AreBytes (drop n bytes)
bytes_dropped zero bytes are = are
bytes_dropped (suc n) [] are = tt
bytes_dropped (suc n) (b ∷ bs) are = bytes_dropped n bs are.1

bytes_joined : (xs ys : List ℕ) → AreBytes xs → AreBytes ys → AreBytes (xs ++ ys)
bytes_joined [] ys first second = second
bytes_joined (x ∷ xs) ys first second = (first.0, bytes_joined xs ys first.1 second)

-- ---- one call

bytes_written : (at n : ℕ) (middle old : List ℕ) → AreBytes middle → AreBytes old → AreBytes (take at old ++ middle ++ drop (at + n) old)
bytes_written at n middle old new_are old_are =
    bytes_joined (take at old ++ middle) (drop (at + n) old) (bytes_joined (take at old) middle (bytes_taken at old old_are) new_are) (bytes_dropped (at + n) old old_are)

bytes_torn : (at n : ℕ) (old new : List ℕ) → Torn at n old new → AreBytes old → AreBytes new
bytes_torn at n old new torn are = subst AreBytes (sym torn.parts) (bytes_written at n torn.middle old torn.bytes are)

bytes_cut : (n : ℕ) (old new : List ℕ) → TornCut n old new → AreBytes old → AreBytes new
bytes_cut n old new cut are = subst AreBytes (sym cut.parts) (bytes_joined (take n old) cut.middle (bytes_taken n old are) cut.bytes)

bytes_part : (what : What) (old new : List ℕ) → IsTrue (writes_bytes what) → PartOf what old new → AreBytes old → AreBytes new
bytes_part Looked old new writes part are = absurd part
bytes_part (Wrote at bytes) old new writes part are =
    ⊎_elim (λ torn. bytes_torn at (length bytes.items) old new torn are)
    (λ whole. subst AreBytes (sym whole) (bytes_written at (length bytes.items) bytes.items old (bytes_tested bytes.items writes) are)) part
bytes_part (WroteMixing at bytes) old new writes part are =
    bytes_torn at (length bytes.items) old new (mixed_torn at bytes.items old new (bytes_tested bytes.items writes) are part) are
bytes_part (Shortened len) old new writes part are = bytes_cut len old new part are
bytes_part Synced old new writes part are = absurd part

-- a crash leaves nothing but bytes
abbrev pub LeavesBytes : FileState → Type 0
LeavesBytes p = (c : List ℕ) → p.may_leave c → AreBytes c

pub bytes_what : (what : What) (p : FileState) → IsTrue (writes_bytes what) → LeavesBytes p → LeavesBytes (after_what what p)
bytes_what what p writes leaves c left =
    let before = left.0 in
    ⊎_elim (λ same. subst AreBytes (sym same) (leaves before.0 before.1)) (λ part. bytes_part what before.0 c writes part (leaves before.0 before.1)) before.2

pub bytes_where : (half other : Half) (p q : FileState) → LeavesBytes p → LeavesBytes q → LeavesBytes (where_same half other p q)
bytes_where A A p q first second = first
bytes_where A B p q first second = second
bytes_where B A p q first second = second
bytes_where B B p q first second = first

-- ---- all calls

pub wrote_more : (calls : List DiskCall) (call : DiskCall) → IsTrue (wrote_bytes calls) → IsTrue (writes_bytes call.what) → IsTrue (wrote_bytes (calls ++ call ∷ []))
wrote_more [] call wrote writes = and_from (writes_bytes call.what) true writes refl
wrote_more (first ∷ calls) call wrote writes =
    let parts = and_parts (writes_bytes first.what) (wrote_bytes calls) wrote in
    and_from (writes_bytes first.what) (wrote_bytes (calls ++ call ∷ [])) parts.0 (wrote_more calls call parts.1 writes)

-- a list in which each place has a byte
pub each_byte : (bytes : List ℕ) → ((i : ℕ) → get_or bytes i 0 < 256) → IsTrue (are_bytes bytes)
each_byte [] each = refl
each_byte (b ∷ bs) each = and_from (nat_lt b 256) (are_bytes bs) (lt-ltb b 256 (each 0)) (each_byte bs (λ i. each (suc i)))

bytes_calls : (half : Half) (calls : List DiskCall) (p : FileState) → IsTrue (wrote_bytes calls) → LeavesBytes p → LeavesBytes (after_calls half calls p)
bytes_calls half [] p wrote leaves = leaves
bytes_calls half (call ∷ calls) p wrote leaves =
    let parts = and_parts (writes_bytes call.what) (wrote_bytes calls) wrote in
    bytes_calls half calls (after_call half call p) parts.1
    (bytes_where half call.half (after_what call.what p) p (bytes_what call.what p parts.0 leaves) leaves)

wrote_taken : (n : ℕ) (calls : List DiskCall) → IsTrue (wrote_bytes calls) → IsTrue (wrote_bytes (take n calls))
wrote_taken zero calls wrote = refl
wrote_taken (suc n) [] wrote = refl
wrote_taken (suc n) (call ∷ calls) wrote =
    let parts = and_parts (writes_bytes call.what) (wrote_bytes calls) wrote in
    and_from (writes_bytes call.what) (wrote_bytes (take n calls)) parts.0 (wrote_taken n calls parts.1)

pub settled_bytes : (file : List ℕ) → AreBytes file → LeavesBytes (settled_file file)
settled_bytes file are c left = subst AreBytes (sym left) are

pub left_bytes : (start : Image) (calls : List DiskCall) (t : ℕ) (c : Image) → IsTrue (began_with_bytes start) → IsTrue (wrote_bytes calls) → LeftSince start calls t c → HoldsBytes c
left_bytes start calls t c began wrote left =
    let parts = and_parts (are_bytes start.a) (are_bytes start.b) began in
    let taken = wrote_taken left.moment calls wrote in (
      bytes_calls A (take left.moment calls) (settled_file start.a) taken (settled_bytes start.a (bytes_tested start.a parts.0)) c.a left.left.0,
      bytes_calls B (take left.moment calls) (settled_file start.b) taken (settled_bytes start.b (bytes_tested start.b parts.1)) c.b left.left.1,
    )
