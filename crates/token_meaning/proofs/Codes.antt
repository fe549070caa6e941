-- The characters of marks that were not escaped.
use Rattle.std.proofs.Common.{◌≡◌, ℕ, Bool, true, false, ◌&&◌, List, [], ◌∷◌, refl, ap}
use Rattle.std.specs.List.{list_all}
use Rattle.token_scan.specs.declared.mark.Mark.{Mark}
use Rattle.token_scan.specs.declared.mark.Mark.TheVariants.{Plain, Quoted, Bar}
use Rattle.token_scan.specs.Marks.{characters}
use Rattle.token_meaning.specs.Numerals.{is_empty}
use Rattle.token_meaning.specs.Meanings.{is_unescaped}
use Rattle.token_meaning.specs.Numbers.{is_point}
use Rattle.token_meaning.specs.Leading.{codes_of, is_dot}

pub plain_characters : (marks : List Mark) → list_all is_unescaped marks ≡ true → characters marks ≡ codes_of marks
plain_characters [] e = refl
plain_characters (Plain c ∷ marks) e = ap (λ (cs : List ℕ). c ∷ cs) (plain_characters marks e)
plain_characters (Quoted c ∷ marks) e = absurd cc
plain_characters (Bar ∷ marks) e = absurd cc

pub empty_codes : (marks : List Mark) → is_empty (codes_of marks) ≡ is_empty marks
empty_codes [] = refl
empty_codes (m ∷ marks) = refl

pub dot_characters : (marks : List Mark) → list_all is_unescaped marks ≡ true → list_all is_point (characters marks) ≡ list_all is_dot marks
dot_characters [] e = refl
dot_characters (Plain c ∷ marks) e = ap (λ b. is_point c && b) (dot_characters marks e)
dot_characters (Quoted c ∷ marks) e = absurd cc
dot_characters (Bar ∷ marks) e = absurd cc
