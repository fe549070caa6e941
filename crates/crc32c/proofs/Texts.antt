-- The register after a text, byte by byte.
use Rattle.std.proofs.Common.{◌≡◌, ℕ, ◌+◌, ◌-◌, ◌<◌, List, [], ◌∷◌, ◌++◌, length, get_or, take, drop, sym, ap, ◌∙◌, arith, append-nil, take-add, take-append-drop, drop-cons}
use Rattle.crc32c.specs.Register.{after_bits, bits, text_bits}
use Rattle.crc32c.proofs.Bits.{after_bits-append, text_bits-append}

-- so many bytes more
pub more_bytes : (r : ℕ) (text more : List ℕ) (i n : ℕ) → more ≡ take n (drop i text)
    → after_bits r (text_bits (take (i + n) text)) ≡ after_bits (after_bits r (text_bits (take i text))) (text_bits more)
more_bytes r text more i n is =
    ap (λ (l : List ℕ). after_bits r (text_bits l)) (take-add i n text ∙ ap (λ (l : List ℕ). take i text ++ l) (sym is))
    ∙ ap (after_bits r) (text_bits-append (take i text) more)
    ∙ after_bits-append r (text_bits (take i text)) (text_bits more)

one_there : (text : List ℕ) (i : ℕ) → i < length text → get_or text i 0 ∷ [] ≡ take 1 (drop i text)
one_there text i within = sym (ap (take 1) (drop-cons text i 0 within))

-- one byte more
pub one_more : (r : ℕ) (text : List ℕ) (i : ℕ) → i < length text
    → after_bits r (text_bits (take (i + 1) text)) ≡ after_bits (after_bits r (text_bits (take i text))) (bits 8 (get_or text i 0))
one_more r text i within =
    more_bytes r text (get_or text i 0 ∷ []) i 1 (one_there text i within)
    ∙ ap (after_bits (after_bits r (text_bits (take i text)))) (append-nil (bits 8 (get_or text i 0)))

eight : (i : ℕ) → i + 8 - i ≡ 8
eight i = omega arith

-- all bytes that are left
pub last_bytes : (r : ℕ) (text more : List ℕ) (i : ℕ) → more ≡ drop i text
    → after_bits (after_bits r (text_bits (take i text))) (text_bits more) ≡ after_bits r (text_bits text)
last_bytes r text more i is =
    sym (after_bits-append r (text_bits (take i text)) (text_bits more))
    ∙ ap (after_bits r) (sym (text_bits-append (take i text) more))
    ∙ ap (λ (l : List ℕ). after_bits r (text_bits l)) (ap (λ (l : List ℕ). take i text ++ l) is ∙ take-append-drop i text)

pub eight_there : (text : List ℕ) (i : ℕ) → take (i + 8 - i) (drop i text) ≡ take 8 (drop i text)
eight_there text i = ap (λ (n : ℕ). take n (drop i text)) (eight i)
