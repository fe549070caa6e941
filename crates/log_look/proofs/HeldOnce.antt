-- Bytes that were read forward from a half that only gained records are what it held at one moment, whatever its version and its manner.
use Rattle.std.proofs.Common.{◌≡◌, inl, inr, ⊎_elim, ℕ, ◌+◌, ◌≤◌, List, ◌⊎◌, ◌∷◌, ◌++◌, length, get_or, take, drop, refl, sym, ◌∙◌, ap, subst, arith, append_assoc}
use Rattle.std.specs.Int.{from_be_bytes, w32}
use Rattle.std.specs.List.{flat_map}
use Rattle.std.proofs.lemmas.List.{drop-take, get_or-take, take-take}
use Rattle.std.proofs.lemmas.List.Concat.{flat_map-append}
use Rattle.crc32c.specs.Register.{crc32c}
use Rattle.batch_bytes.specs.Batch.{batch_bytes}
use Rattle.batch_bytes.specs.Reading.{HasNoMark}
use Rattle.batched_half.specs.Layout.{BatchedHalf, HoldsHalf, contents_of, head_bytes}
use Rattle.batched_half.specs.Version3.{mark_of_one_sync, mark_of_two_syncs}
use Rattle.batched_half.specs.Writing.{half_front}
use Rattle.batched_half.proofs.HalfEnds.{half_mark}
use Rattle.batched_half.proofs.Holding.{batches_held, half_held}
use Rattle.batched_half.proofs.OneVersion3.{length_held}
use Rattle.batched_half.proofs.Writing.{held_still, holds_front}
use Rattle.gate_log.specs.Layout.{Contents, HalfHolds, HoldsGated, front, header, open_record}
use Rattle.gate_log.proofs.Headers.{held_batched, held_gated}
use Rattle.gate_log.proofs.Sizes.{not_batched}
use Rattle.log_look.specs.FilesDuringLook.{Gains, GainsBatches, KeepsWritten}
use Rattle.log_look.specs.LookResults.{IsSettledReading, ZeroStays, start_of_batches}
use Rattle.log_look.proofs.Growing.{IsGrowing, IsHeldOnce, IsShutBehind, before_gate, read_later}
use Rattle.log_look.proofs.OverZeros.{before_zero, first_bytes}

-- ---- a half of version 1 or 2

gated_shut : (k : Contents) (f : List ℕ) → HoldsGated k f → IsShutBehind (front k) f
gated_shut k f holds = record { gate = holds.gate; closed = holds.closed; rest = holds.rest; parts = holds.parts }

gated_still : (k : Contents) (f other : List ℕ) → HoldsGated k f → IsShutBehind (front k) other → HoldsGated k other
gated_still k f other holds shut = record { gate = shut.gate; closed = shut.closed; rest = shut.rest; parts = shut.parts; sized = holds.sized }

-- records more come behind what was there
front_more : (k j : Contents) (gains : Gains k j) → front j ≡ front k ++ flat_map open_record gains.more
front_more k j gains =
    ap front gains.is
    ∙ ap (λ (l : List ℕ). header k ++ k.snapshot ++ l) (flat_map-append open_record k.entries gains.more)
    ∙ sym (append_assoc (header k ++ k.snapshot) (flat_map open_record k.entries) (flat_map open_record gains.more))

-- ---- one of version 3 that is kept with two syncs

record IsHeldGated (h : BatchedHalf) (f : List ℕ) : Type 0 where
  holds : HoldsHalf h f
  two : h.manner.mark ≡ mark_of_two_syncs

batched_shut : (h : BatchedHalf) (f : List ℕ) → IsHeldGated h f → IsShutBehind (half_front h) f
batched_shut h f held =
    ⊎_elim
    (λ two. record {
      gate = two.1.gate;
      closed = two.1.closed;
      rest = two.1.rest;
      parts = holds_front h f held.holds ∙ ap (λ (l : List ℕ). half_front h ++ l) two.1.parts;
    })
    (λ one. absurd (omega (arith, held.two, one.0)))
    held.holds.batches.may_stand

batched_still : (h : BatchedHalf) (f other : List ℕ) → IsHeldGated h f → IsShutBehind (half_front h) other → IsHeldGated h other
batched_still h f other held shut = record {
  holds = held_still h f held.holds other (shut.gate ∷ shut.rest) shut.parts (inl (held.two, record { gate = shut.gate; closed = shut.closed; rest = shut.rest; parts = refl }));
  two = held.two;
}

-- batches more come behind what was there
batches_more : (h i : BatchedHalf) (gains : GainsBatches h i) → half_front i ≡ half_front h ++ flat_map (batch_bytes h.manner.mark) gains.more
batches_more h i gains =
    let head : List ℕ = head_bytes h.generation (length h.snapshot) h.manner h.followed (crc32c h.snapshot) in
    let were : List ℕ = flat_map (batch_bytes h.manner.mark) h.batches in
    let more : List ℕ = flat_map (batch_bytes h.manner.mark) gains.more in
    ap half_front gains.is
    ∙ ap (λ (l : List ℕ). head ++ (h.snapshot ++ l)) (flat_map-append (batch_bytes h.manner.mark) h.batches gains.more)
    ∙ ap (λ (l : List ℕ). head ++ l) (sym (append_assoc h.snapshot were more))
    ∙ sym (append_assoc head (h.snapshot ++ were) more)

-- ---- the head of a half, by its first bytes

first_byte : (size : ℕ) (bytes file : List ℕ) → take (41 + size) bytes ≡ take (41 + size) file → get_or bytes 15 0 ≡ get_or file 15 0
first_byte size bytes file same =
    sym (get_or-take (41 + size) bytes 15 0 (omega arith)) ∙ ap (λ (l : List ℕ). get_or l 15 0) same ∙ get_or-take (41 + size) file 15 0 (omega arith)

numbers_of : (size : ℕ) (bytes : List ℕ) → take 4 (drop 11 (take (41 + size) bytes)) ≡ take 4 (drop 11 bytes)
numbers_of size bytes =
    let split : 41 + size ≡ 11 + (30 + size) = omega arith in
    ap (λ (n : ℕ). take 4 (drop 11 (take n bytes))) split
    ∙ ap (take 4) (drop-take 11 (30 + size) bytes)
    ∙ take-take 4 (30 + size) (drop 11 bytes) (omega arith)

first_numbers : (size : ℕ) (bytes file : List ℕ) → take (41 + size) bytes ≡ take (41 + size) file → take 4 (drop 11 bytes) ≡ take 4 (drop 11 file)
first_numbers size bytes file same =
    sym (numbers_of size bytes) ∙ ap (λ (l : List ℕ). take 4 (drop 11 l)) same ∙ numbers_of size file

-- ---- any half

module _ (file : ℕ → List ℕ) (start to : ℕ) (growing : IsGrowing file start to) (bytes : List ℕ) (read : IsSettledReading file bytes start to) where
  begun : start ≤ to
  begun = let later = read_later file 0 bytes start read.whole.moment read.whole.read in omega (arith, later, read.whole.not_after)

  -- its version stays
  same_version : (k : Contents) → HalfHolds k (file start) → (t : ℕ) → start ≤ t → t ≤ to → (j : Contents) × HalfHolds j (file t) × (j.version ≡ k.version)
  same_version k holds t after before =
      let there = growing.held t after before in
      (there.0, there.1, ap (λ (j : Contents). j.version) (growing.gains start t k there.0 (omega arith) after before holds there.1).is)

  gated_once : (k : Contents) → HoldsGated k (file start) → IsHeldOnce file start to bytes
  gated_once k holds =
      before_gate Contents HoldsGated front (λ j. j) (λ j f held. inl held) gated_shut gated_still file start to
      (λ t after before.
      let there = same_version k (inl holds) t after before in
      (there.0, held_gated there.0 (file t) (λ three. not_batched k.version holds.sized.version (sym there.2 ∙ three)) there.1))
      (λ t u j i after next before one two.
      let gains = growing.gains t u j i after next before (inl one) (inl two) in (flat_map open_record gains.more, front_more j i gains))
      bytes read.whole.moment read.whole.read read.whole.not_after read.whole.ended

  module _ (h : BatchedHalf) (holds : HoldsHalf h (file start)) where
    -- it is the same half, but for its batches
    batched_then : (t : ℕ) → start ≤ t → t ≤ to → (i : BatchedHalf) × HoldsHalf i (file t) × GainsBatches h i
    batched_then t after before =
        let there = same_version (contents_of h) (inr (batches_held h (file start) holds)) t after before in
        let got = half_held there.0 (file t) (held_batched there.0 (file t) there.2 there.1) in
        (got.0, got.1, growing.batches start t h got.0 (omega arith) after before holds got.1)

    gated_batches_once : h.manner.mark ≡ mark_of_two_syncs → IsHeldOnce file start to bytes
    gated_batches_once two =
        before_gate BatchedHalf IsHeldGated half_front contents_of (λ i f held. inr (batches_held i f held.holds)) batched_shut batched_still file start to
        (λ t after before.
        let there = batched_then t after before in
        (there.0, record { holds = there.1; two = ap (λ (i : BatchedHalf). i.manner.mark) there.2.is ∙ two }))
        (λ t u j i after next before one other.
        let gains = growing.batches t u j i after next before one.holds other.holds in (flat_map (batch_bytes j.manner.mark) gains.more, batches_more j i gains))
        bytes read.whole.moment read.whole.read read.whole.not_after read.whole.ended

    first_stays : (t u : ℕ) → start ≤ t → t ≤ u → u ≤ to → take (41 + length h.snapshot) (file u) ≡ take (41 + length h.snapshot) (file t)
    first_stays t u after next before = first_is u (omega (arith, after, next)) before ∙ sym (first_is t after (omega (arith, next, before)))
      where
        first_is : (v : ℕ) → start ≤ v → v ≤ to → take (41 + length h.snapshot) (file v) ≡ head_bytes h.generation (length h.snapshot) h.manner h.followed (crc32c h.snapshot) ++ h.snapshot
        first_is v since until =
            let there = batched_then v since until in
            ap (λ (i : BatchedHalf). take (41 + length i.snapshot) (file v)) (sym there.2.is)
            ∙ first_bytes there.0 (file v) there.1
            ∙ ap (λ (i : BatchedHalf). head_bytes i.generation (length i.snapshot) i.manner i.followed (crc32c i.snapshot) ++ i.snapshot) there.2.is

    -- what was read of its head is its head
    zero_still : h.manner.mark ≡ mark_of_one_sync → (t : ℕ) (done rest : List ℕ) → start ≤ t → t ≤ to → take (41 + length h.snapshot) bytes ≡ take (41 + length h.snapshot) (file t) → bytes ≡ done ++ 0 ∷ rest
        → 41 + length h.snapshot ≤ length done → HasNoMark rest ⊎ ZeroStays file (41 + length h.snapshot) (length done) read.whole.moment to
    zero_still one t done rest after before first parts long =
        let there = batched_then t after before in
        let marked : get_or bytes 15 0 ≡ mark_of_one_sync =
        first_byte (length h.snapshot) bytes (file t) first ∙ half_mark there.0 (file t) there.1 ∙ ap (λ (i : BatchedHalf). i.manner.mark) there.2.is ∙ one in
        let base : start_of_batches bytes ≡ 41 + length h.snapshot =
        ap (λ (l : List ℕ). 41 + from_be_bytes w32 l) (first_numbers (length h.snapshot) bytes (file t) first)
        ∙ ap (λ (n : ℕ). 41 + n) (length_held (contents_of there.0) (file t) (batches_held there.0 (file t) there.1))
        ∙ ap (λ (i : BatchedHalf). 41 + length i.snapshot) there.2.is in
        subst (λ (n : ℕ). HasNoMark rest ⊎ ZeroStays file n (length done) read.whole.moment to) base (read.still done rest marked parts (omega (arith, base, long)))

    over_zeros_once : h.manner.mark ≡ mark_of_one_sync → IsHeldOnce file start to bytes
    over_zeros_once one =
        before_zero file start to (41 + length h.snapshot)
        (λ t after before.
        let there = batched_then t after before in
        (there.0, there.1, ap (λ (i : BatchedHalf). i.manner.mark) there.2.is ∙ one, ap (λ (i : BatchedHalf). 41 + length i.snapshot) there.2.is))
        first_stays
        (λ t u after next before.
        let this = batched_then t after (omega (arith, next, before)) in
        let that = batched_then u (omega (arith, after, next)) before in
        subst (λ (n : ℕ). KeepsWritten n (file t) (file u)) (ap (λ (i : BatchedHalf). 41 + length i.snapshot) this.2.is)
        (growing.written t u this.0 that.0 after next before this.1 that.1 (ap (λ (i : BatchedHalf). i.manner.mark) this.2.is ∙ one)))
        bytes read.whole.moment read.whole.not_after (zero_still one) read.whole.read read.whole.ended

    batched_once : IsHeldOnce file start to bytes
    batched_once = ⊎_elim gated_batches_once over_zeros_once holds.manner.mark

  pub read_is_held : IsHeldOnce file start to bytes
  read_is_held =
      let first = growing.held start (omega arith) begun in
      elim first.1 [
        | inl gated ↦ gated_once first.0 gated
        | inr batched ↦ let got = half_held first.0 (file start) batched in batched_once got.0 got.1
      ]
