-- The characters of marks, one by one, and the names of characters.
use Rattle.std.proofs.Common.{◌≡◌, ℕ, true, false, ◌&&◌, List, [], ◌∷◌, length, nat_eq, Some, None, refl, sym, ap, arith}
use Rattle.std.proofs.Math.Dec.{eqb-suc-zero}
use Rattle.std.specs.Char.{eq_ignore_ascii_case}
use Rattle.token_scan.specs.declared.mark.Mark.{Mark}
use Rattle.token_scan.specs.declared.mark.Mark.TheVariants.{Plain, Quoted, Bar}
use Rattle.token_scan.specs.Marks.{characters, mark_character}
use Rattle.std_macros.specs.Values.{is_named}

pub with_character : (m : Mark) (c : ℕ) (ms : List Mark) → mark_character m ≡ Some c → characters (m ∷ ms) ≡ c ∷ characters ms
with_character (Plain x) c ms e = let same : x ≡ c = cc in ap (λ y. y ∷ characters ms) same
with_character (Quoted x) c ms e = let same : x ≡ c = cc in ap (λ y. y ∷ characters ms) same
with_character Bar c ms e = absurd cc

pub without_character : (m : Mark) (ms : List Mark) → mark_character m ≡ None → characters (m ∷ ms) ≡ characters ms
without_character (Plain x) ms e = absurd cc
without_character (Quoted x) ms e = absurd cc
without_character Bar ms e = refl

-- a name is compared character by character
pub named_from : (c w : ℕ) (cs ws : List ℕ) → eq_ignore_ascii_case c w ≡ true → is_named (c ∷ cs) (w ∷ ws) ≡ is_named cs ws
named_from c w cs ws e = ap (λ b. b && is_named cs ws) e

pub named_otherwise : (c w : ℕ) (cs ws : List ℕ) → eq_ignore_ascii_case c w ≡ false → is_named (c ∷ cs) (w ∷ ws) ≡ false
named_otherwise c w cs ws e = ap (λ b. b && is_named cs ws) e

pub named_longer : (c : ℕ) (cs ws : List ℕ) → length ws ≡ 0 → is_named (c ∷ cs) ws ≡ false
named_longer c cs [] e = refl
named_longer c cs (w ∷ ws) e = absurd (omega arith)

pub named_whole : (ws : List ℕ) → is_named [] ws ≡ nat_eq (length ws) 0
named_whole [] = refl
named_whole (w ∷ ws) = sym (eqb-suc-zero (length ws))
