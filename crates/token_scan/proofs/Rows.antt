-- Tokens in texts under the standard readtable.
use Rattle.std.proofs.Common.{◌≡◌, ℕ, List, [], ◌∷◌, ◌++◌, codes, Result, Ok, Err, refl}
use Rattle.readtable_core.specs.Tables.{standard}
use Rattle.token_scan.specs.declared.mark.Mark.{Mark}
use Rattle.token_scan.specs.declared.mark.Mark.TheVariants.{Plain, Quoted, Bar}
use Rattle.token_scan.specs.declared.refusal.ScanRefusal.{ScanRefusal}
use Rattle.token_scan.specs.declared.refusal.ScanRefusal.TheVariants.{EndOfFile, InvalidCharacter, InvalidTrait, TokenTooLong}
use Rattle.token_scan.specs.Tokens.{ScanFault, token_in, outside}

-- the token of at most two characters at the start of the text
short : List ℕ → Result (List Mark × ℕ × List ℕ) ScanFault
short text = token_in standard 2 0 text

refused_at : ScanRefusal → ℕ → Result (List Mark × ℕ × List ℕ) ScanFault
refused_at refusal at = Err (record { refusal = refusal; at = at })

-- 1 is a character of type invalid
tokens : (short (codes "a# b") ≡ Ok (Plain 97 ∷ Plain 35 ∷ [], 2, codes " b"))
    × (short (codes "a(") ≡ Ok (Plain 97 ∷ [], 1, codes "("))
    × (short (codes ";") ≡ Ok ([], 0, codes ";"))
    × (short (codes "|(|\\ ||") ≡ Ok (Bar ∷ Quoted 40 ∷ Bar ∷ Quoted 32 ∷ Bar ∷ Bar ∷ [], 7, []))
    × (short (codes "\\" ++ 1 ∷ []) ≡ Ok (Quoted 1 ∷ [], 2, []))
unfolding outside standard short
tokens = (refl, refl, refl, refl, refl)

-- Bars or an escape at the end; a byte that is no character, escaped or not; 8, which is a constituent with the trait invalid.
refusals : (short (codes "a| ") ≡ refused_at EndOfFile 3)
    × (short (codes "a\\") ≡ refused_at EndOfFile 2)
    × (short (codes "a" ++ 195 ∷ []) ≡ refused_at InvalidCharacter 1)
    × (short (codes "\\" ++ 195 ∷ []) ≡ refused_at InvalidCharacter 1)
    × (short (codes "a" ++ 8 ∷ []) ≡ refused_at InvalidTrait 1)
unfolding outside standard short refused_at
refusals = (refl, refl, refl, refl, refl)

-- On one byte an invalid character comes before a token that is too long, and that before an invalid trait. The escaped
-- character is one too many, not its escape.
too_long : (short (codes "ab" ++ 8 ∷ []) ≡ refused_at TokenTooLong 2)
    × (short (codes "ab" ++ 195 ∷ []) ≡ refused_at InvalidCharacter 2)
    × (short (codes "a||b\\c") ≡ refused_at TokenTooLong 5)
unfolding outside standard short refused_at
too_long = (refl, refl, refl)
