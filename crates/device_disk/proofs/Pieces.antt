-- Pieces, one after the other.
use Rattle.std.proofs.Common.{◌≡◌, ◌≤◌, ℕ, ◌+◌, ◌-◌, List, [], ◌∷◌, ◌++◌, length, take, drop, sym, ap, ◌∙◌, append_assoc, append-nil, length-append, length-drop, length-take, arith}
use Rattle.std.proofs.lemmas.List.{take_all, take-append-drop}
use Rattle.disk_trait.specs.Orders.{writes}
use Rattle.disk_trait.specs.declared.half.Half.{Half}
use Rattle.device_disk.specs.DeviceCalls.{DeviceCall, done, gave}
use Rattle.device_disk.specs.Pieces.{after_reads, after_writes, joined_pieces}

-- with one piece more
pub joined_more : (pieces : List (List ℕ)) (piece : List ℕ) → joined_pieces (pieces ++ piece ∷ []) ≡ joined_pieces pieces ++ piece
joined_more [] piece = append-nil piece
joined_more (first ∷ more) piece = ap (λ l. first ++ l) (joined_more more piece) ∙ sym (append_assoc first (joined_pieces more) piece)

pub writes_more : (half : Half) (at place : ℕ) (pieces : List (List ℕ)) (piece : List ℕ) (before : List DeviceCall)
    → place ≡ at + length (joined_pieces pieces) → after_writes half at (pieces ++ piece ∷ []) before ≡ done (writes half place piece) ∷ after_writes half at pieces before
writes_more half at place [] piece before is = ap (λ (n : ℕ). done (writes half n piece) ∷ before) (let e : at ≡ place = omega (arith, is) in e)
writes_more half at place (first ∷ more) piece before is =
    writes_more half (at + length first) place more piece (done (writes half at first) ∷ before)
    (let e : place ≡ (at + length first) + length (joined_pieces more) = omega (arith, is, length-append first (joined_pieces more)) in e)

pub reads_more : (half : Half) (room at place : ℕ) (pieces : List (List ℕ)) (piece : List ℕ) (before : List DeviceCall)
    → place ≡ at + length (joined_pieces pieces) → after_reads half room at (pieces ++ piece ∷ []) before ≡ gave half place room piece ∷ after_reads half room at pieces before
reads_more half room at place [] piece before is = ap (λ (n : ℕ). gave half n room piece ∷ before) (let e : at ≡ place = omega (arith, is) in e)
reads_more half room at place (first ∷ more) piece before is =
    reads_more half room (at + length first) place more piece (gave half at room first ∷ before)
    (let e : place ≡ (at + length first) + length (joined_pieces more) = omega (arith, is, length-append first (joined_pieces more)) in e)

-- n bytes of the rest were written
pub bytes_left : (bytes rest : List ℕ) (pieces : List (List ℕ)) (n : ℕ) → n ≤ length rest → bytes ≡ joined_pieces pieces ++ rest
    → bytes ≡ joined_pieces (pieces ++ take n rest ∷ []) ++ take (length rest - n) (drop n rest)
bytes_left bytes rest pieces n within parts =
    let left : take (length rest - n) (drop n rest) ≡ drop n rest = take_all (length rest - n) (drop n rest) (rw (length-drop n rest) (omega arith)) in
    let front = joined_pieces pieces in
    parts ∙ ap (λ z. front ++ z) (sym (take-append-drop n rest)) ∙ sym (append_assoc front (take n rest) (drop n rest))
    ∙ ap (λ z. (front ++ take n rest) ++ z) (sym left) ∙ ap (λ z. z ++ take (length rest - n) (drop n rest)) (sym (joined_more pieces (take n rest)))

-- so the place is behind them
pub place_behind : (at place n : ℕ) (pieces : List (List ℕ)) (rest : List ℕ) → n ≤ length rest → place ≡ at + length (joined_pieces pieces)
    → place + n ≡ at + length (joined_pieces (pieces ++ take n rest ∷ []))
place_behind at place n pieces rest within is =
    let size : length (joined_pieces (pieces ++ take n rest ∷ [])) ≡ length (joined_pieces pieces) + length (take n rest) =
    ap (λ l. length l) (joined_more pieces (take n rest)) ∙ length-append (joined_pieces pieces) (take n rest) in
    omega (arith, is, size, within, length-take n rest)
