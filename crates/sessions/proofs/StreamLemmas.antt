-- Known bytes of readers and writers.
use Rattle.std.proofs.Common.{◌≡◌, ℕ, ◌-◌, ◌≤◌, List, ◌++◌, length, take, drop, Option, None, Some, sym, ap, ◌∙◌, append_assoc, length-drop, arith}
use Rattle.std.specs.Io.KnownBytes.{Appends}
use Rattle.std.proofs.lemmas.List.{take_all, take-append-drop}

-- a write to a writer that holds known bytes
pub appended : (old new : Option (List ℕ)) (held bytes : List ℕ) → old ≡ Some held → Appends old new bytes → new ≡ Some (held ++ bytes)
appended None new held bytes is appends = cc
appended (Some xs) None held bytes is appends = absurd appends
appended (Some xs) (Some ys) held bytes is appends =
    let same : xs ≡ held = cc in
    ap (λ zs. Some zs) (appends ∙ ap (λ z. z ++ bytes) same)

-- n bytes of the rest were written
pub piece_written : (text front rest : List ℕ) (n : ℕ) → n ≤ length rest → text ≡ front ++ rest
    → text ≡ (front ++ take n rest) ++ take (length rest - n) (drop n rest)
piece_written text front rest n within parts =
    let left : take (length rest - n) (drop n rest) ≡ drop n rest = take_all (length rest - n) (drop n rest) (rw (length-drop n rest) (omega arith)) in
    parts ∙ ap (λ z. front ++ z) (sym (take-append-drop n rest)) ∙ sym (append_assoc front (take n rest) (drop n rest))
    ∙ ap (λ z. (front ++ take n rest) ++ z) (sym left)

-- the bytes after so many
pub behind_piece : (bytes : List ℕ) (n : ℕ) → take (length bytes - n) (drop n bytes) ≡ drop n bytes
behind_piece bytes n = take_all (length bytes - n) (drop n bytes) (rw (length-drop n bytes) (omega arith))
