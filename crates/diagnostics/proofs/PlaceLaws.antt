-- Places after one text, and then after another.
use Rattle.std.proofs.Common.{◌≡◌, ◌==◌, ◌+◌, ◌-◌, ◌≤◌, ℕ, if◌then◌else◌, List, [], ◌∷◌, ◌++◌, Option, None, Some, length, take, append-nil, append_assoc, refl, sym, ap, subst, ◌∙◌, arith}
use Rattle.std.proofs.lemmas.List.{length-append}
use Rattle.std.proofs.Math.Seq.{take-append-add}
use Rattle.std.specs.Prelude.{IfSome}
use Rattle.diagnostics.specs.Places.{IsSpotBehind, IsSpotAfter, KeepsIn, column_from, line_from}
use Rattle.diagnostics.specs.declared.places.Spot.{Spot}

line_more : (line : ℕ) (xs ys : List ℕ) → line_from line (xs ++ ys) ≡ line_from (line_from line xs) ys
line_more line [] ys = refl
line_more line (x ∷ xs) ys = line_more (if x == 10 then line + 1 else line) xs ys

column_more : (column : ℕ) (xs ys : List ℕ) → column_from column (xs ++ ys) ≡ column_from (column_from column xs) ys
column_more column [] ys = refl
column_more column (x ∷ xs) ys = column_more (if x == 10 then 1 else column + 1) xs ys

pub not_moved : (spot : Spot) → IsSpotBehind spot [] spot
not_moved spot = record { bytes = omega arith; line = refl; column = refl }

pub moved_on : (spot mid later : Spot) (xs ys : List ℕ) → IsSpotBehind spot xs mid → IsSpotBehind mid ys later → IsSpotBehind spot (xs ++ ys) later
moved_on spot mid later xs ys one other =
    let far = one.bytes in
    let further = other.bytes in
    let both = length-append xs ys in
    record {
      bytes = omega (arith, far, further, both);
      line = other.line ∙ ap (λ n. line_from n ys) one.line ∙ sym (line_more spot.line xs ys);
      column = other.column ∙ ap (λ n. column_from n ys) one.column ∙ sym (column_more spot.column xs ys);
    }

pub spot_moved : (spot later : Spot) (early text : List ℕ) → IsSpotAfter spot early → IsSpotBehind spot text later → IsSpotAfter later (early ++ text)
spot_moved spot later early text at moved =
    let far = at.bytes in
    let further = moved.bytes in
    let both = length-append early text in
    record {
      bytes = omega (arith, far, further, both);
      line = moved.line ∙ ap (λ n. line_from n text) at.line ∙ sym (line_more 1 early text);
      column = moved.column ∙ ap (λ n. column_from n text) at.column ∙ sym (column_more 1 early text);
    }

-- ---- what is kept

pub keeps_moved : (before later : Option Spot) (older newer bytes : List ℕ) → IfSome later (λ l. (spot : Spot) × (before ≡ Some spot) × IsSpotBehind spot older l)
    → KeepsIn before older newer bytes → KeepsIn later newer [] bytes
keeps_moved before None older newer bytes moved keeps = tt
keeps_moved before (Some l) older newer bytes (spot, is, moved) keeps =
    let had : KeepsIn (Some spot) older newer bytes = subst (λ (o : Option Spot). KeepsIn o older newer bytes) is keeps in (
      had.0 ++ older,
      had.1 ∙ ap (λ xs. had.0 ++ (older ++ xs)) (sym (append-nil newer)) ∙ sym (append_assoc had.0 older (newer ++ [])),
      spot_moved spot l had.0 older had.2 moved,
    )

pub keeps_more : (before : Option Spot) (older newer piece bytes : List ℕ) → KeepsIn before older newer bytes → KeepsIn before older (newer ++ piece) (bytes ++ piece)
keeps_more None older newer piece bytes keeps = tt
keeps_more (Some spot) older newer piece bytes (early, parts, at) =
    (early, ap (λ xs. xs ++ piece) parts ∙ append_assoc early (older ++ newer) piece ∙ ap (λ xs. early ++ xs) (append_assoc older newer piece), at)

-- so many bytes after the ones that are not kept any more
pub spot_found : (before result : Option Spot) (spot : Spot) (older newer given : List ℕ) (bytes count : ℕ) → before ≡ Some spot → bytes ≡ spot.bytes + count
    → IfSome result (λ later. (count ≤ length (older ++ newer)) × IsSpotBehind spot (take count (older ++ newer)) later)
    → KeepsIn before older newer given → IfSome result (λ later. (bytes ≤ length given) × IsSpotAfter later (take bytes given))
spot_found before None spot older newer given bytes count is many found keeps = tt
spot_found before (Some later) spot older newer given bytes count is many (within, moved) keeps =
    let had : KeepsIn (Some spot) older newer given = subst (λ (o : Option Spot). KeepsIn o older newer given) is keeps in
    let kept = older ++ newer in
    let before_them = had.2.bytes in
    let all = ap length had.1 ∙ length-append had.0 kept in
    let same : bytes ≡ length had.0 + count = omega (arith, many, before_them) in
    let taken : take bytes given ≡ had.0 ++ take count kept = ap (λ n. take n given) same ∙ ap (take (length had.0 + count)) had.1 ∙ take-append-add had.0 kept count in
    (omega (arith, all, same, within), subst (IsSpotAfter later) (sym taken) (spot_moved spot later had.0 (take count kept) had.2 moved))

-- the rest of so many bytes lies in a second text
pub moved_two : (spot mid : Spot) (one other : List ℕ) (count : ℕ) (result : Option Spot) → length one ≤ count → count - length one ≤ length other → IsSpotBehind spot one mid
    → IfSome result (IsSpotBehind mid (take (count - length one) other)) → IfSome result (λ later. (count ≤ length (one ++ other)) × IsSpotBehind spot (take count (one ++ other)) later)
moved_two spot mid one other count None longer fits first second = tt
moved_two spot mid one other count (Some later) longer fits first second =
    let both = length-append one other in
    let parts : count ≡ length one + (count - length one) = omega (arith, longer) in
    let taken : take count (one ++ other) ≡ one ++ take (count - length one) other = ap (λ n. take n (one ++ other)) parts ∙ take-append-add one other (count - length one) in
    (omega (arith, both, longer, fits), subst (λ t. IsSpotBehind spot t later) (sym taken) (moved_on spot mid later one (take (count - length one) other) first second))
