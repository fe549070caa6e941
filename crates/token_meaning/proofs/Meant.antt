-- What a token means, by the tests on its marks.
use Rattle.std.proofs.Common.{◌≡◌, ℕ, true, false, List, Option, None, Some, Result, refl, ap, ◌∙◌}
use Rattle.std.specs.List.{list_all}
use Rattle.lisp_object.specs.Object.{Object}
use Rattle.token_scan.specs.declared.mark.Mark.{Mark}
use Rattle.token_scan.specs.Marks.{characters}
use Rattle.token_meaning.specs.declared.refusal.MeaningRefusal.{MeaningRefusal}
use Rattle.token_meaning.specs.Numbers.{is_point, number_in_base, rational_number}
use Rattle.token_meaning.specs.Meanings.{is_unescaped, name_of_marks, dots_of, number_meaning, number_or_name, meaning_of, rational_of}
use Rattle.token_meaning.specs.Leading.{codes_of, is_dot}
use Rattle.token_meaning.proofs.Codes.{plain_characters, dot_characters}

pub meant_escaped : (base : ℕ) (marks : List Mark) → list_all is_unescaped marks ≡ false → meaning_of base marks ≡ name_of_marks marks
meant_escaped base marks plain = rw plain refl

pub meant_dots : (base : ℕ) (marks : List Mark) → list_all is_unescaped marks ≡ true → list_all is_dot marks ≡ true
    → meaning_of base marks ≡ dots_of (codes_of marks)
meant_dots base marks plain dots =
    let all : list_all is_point (characters marks) ≡ true = dot_characters marks plain ∙ dots in
    rw (plain, all) (ap dots_of (plain_characters marks plain))

pub meant_other : (base : ℕ) (marks : List Mark) (given : Option (Result Object MeaningRefusal)) → list_all is_unescaped marks ≡ true → list_all is_dot marks ≡ false
    → number_in_base base (codes_of marks) ≡ given → meaning_of base marks ≡ number_or_name given marks
meant_other base marks given plain dots e =
    let not_all : list_all is_point (characters marks) ≡ false = dot_characters marks plain ∙ dots in
    rw (plain, not_all) (ap (λ o. number_or_name o marks) (ap (number_in_base base) (plain_characters marks plain) ∙ e))

pub rational_meant : (base : ℕ) (marks : List Mark) → list_all is_unescaped marks ≡ true → rational_of base marks ≡ rational_number base (codes_of marks)
rational_meant base marks plain = rw plain (ap (rational_number base) (plain_characters marks plain))
