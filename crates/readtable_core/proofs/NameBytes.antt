-- The bytes of a name, in front of zeros that fill them up.
use Rattle.std.proofs.Common.{◌≡◌, ℕ, ◌≤◌, ◌-◌, List, ◌++◌, length, take, drop, replicate, arith, length-append, true, ap, ◌∙◌}
use Rattle.std.specs.List.{list_all}
use Rattle.std.specs.Char.{is_ascii}
use Rattle.std.proofs.lemmas.List.{drop-replicate, length-replicate}
use Rattle.std.proofs.Math.Seq.{take-append_seam}

pub filled_length : (name : List ℕ) → length name ≤ 32 → length (name ++ drop (length name) (replicate 32 0)) ≡ 32
filled_length name h =
    let z : ℕ = 0 in rw (drop-replicate (length name) 32 z, length-append name (replicate (32 - length name) 0), length-replicate (32 - length name) z) (omega arith)

pub filled_again : (name : List ℕ) → take (length name) (name ++ drop (length name) (replicate 32 0)) ++ replicate (32 - length name) 0
    ≡ name ++ drop (length name) (replicate 32 0)
filled_again name = let z : ℕ = 0 in rw (take-append_seam name (drop (length name) (replicate 32 0)), drop-replicate (length name) 32 z)

pub filled_ascii : (name : List ℕ) → list_all is_ascii name ≡ true
    → list_all is_ascii (take (length name) (name ++ drop (length name) (replicate 32 0))) ≡ true
filled_ascii name e = ap (list_all is_ascii) (take-append_seam name (drop (length name) (replicate 32 0))) ∙ e
