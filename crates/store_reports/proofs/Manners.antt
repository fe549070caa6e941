-- The manner of a half, from its bytes.
use Rattle.std.proofs.Common.{◌≡◌, ℕ, ◌<◌, List, ◌∷◌, ◌++◌, length, get_or, take, drop, ◌∙◌, ap, arith, append_assoc}
use Rattle.std.proofs.lemmas.List.{take_at}
use Rattle.std.specs.Int.{to_be_bytes, w32}
use Rattle.crc32c.specs.Register.{crc32c}
use Rattle.batched_half.specs.Layout.{BatchedHalf, HoldsHalf, contents_of, head_numbers}
use Rattle.batched_half.proofs.HalfEnds.{half_mark}
use Rattle.batched_half.proofs.Holding.{half_held}
use Rattle.batched_half.proofs.OneVersion3.{size_held}
use Rattle.gate_log.specs.Layout.{Contents, HalfHolds}
use Rattle.gate_log.proofs.Headers.{held_batched}

pub half_long : (k : Contents) (file : List ℕ) → HalfHolds k file → k.version ≡ 3 → length file < 32 → ⊥
half_long k file holds three short = omega (arith, size_held k file (held_batched k file three holds), short)

identity_there : (h : BatchedHalf) (file : List ℕ) → HoldsHalf h file → take 16 (drop 16 file) ≡ h.manner.identity
identity_there h file holds =
    let behind : List ℕ = h.followed ∷ (to_be_bytes w32 (crc32c h.snapshot) ++ to_be_bytes w32 (crc32c (head_numbers h.generation (length h.snapshot) h.manner))) in
    let parts : drop 16 file ≡ h.manner.identity ++ (behind ++ (h.snapshot ++ holds.rest)) = ap (drop 16) holds.parts ∙ append_assoc h.manner.identity behind (h.snapshot ++ holds.rest) in
    ap (take 16) parts ∙ take_at h.manner.identity (behind ++ (h.snapshot ++ holds.rest)) 16 holds.manner.identity

pub manner_there : (k : Contents) (file identity : List ℕ) (mark : ℕ) → HalfHolds k file → k.version ≡ 3 → mark ≡ get_or file 15 0 → identity ≡ take 16 (drop 16 file)
    → (h : BatchedHalf) × HoldsHalf h file × (contents_of h ≡ k) × (mark ≡ h.manner.mark) × (identity ≡ h.manner.identity)
manner_there k file identity mark holds three mark_is identity_is =
    let got = half_held k file (held_batched k file three holds) in
    (got.0, got.1, got.2, mark_is ∙ half_mark got.0 file got.1, identity_is ∙ identity_there got.0 file got.1)
