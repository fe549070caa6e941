use Rattle.std.proofs.Common.{◌≡◌, ◌∙◌, Result, Some, if◌then◌else◌, ap, subst}
use Rattle.std.specs.List.{list_all}
use Rattle.token_meaning.specs.Meanings.{Meaning, dots_of, meaning_of, name_of_marks, number_or_name}
use Rattle.token_meaning.specs.Numbers.{integer_of, is_point, number_in_base}
use Rattle.token_meaning.specs.Results.{AnswersMeaning}
use Rattle.token_meaning.specs.declared.refusal.MeaningRefusal.{MeaningRefusal}
use Rattle.token_scan.specs.Marks.{characters}
use Rattle.law_tests.proofs.tokens.meaning_of_token.Goals as goal

pub returns : goal.returns
returns c = λ negative size plain no_points digits.
    let marks = c.args.marks.now in
    let text = characters marks in
    let number = number_in_base c.args.base text in
    let same : meaning_of c.args.base marks ≡ number_or_name (Some (integer_of negative size)) marks =
    ap (λ b. if b then (if list_all is_point text then dots_of text else number_or_name number marks) else name_of_marks marks) plain
    ∙ (ap (λ b. if b then dots_of text else number_or_name number marks) no_points
    ∙ ap (λ n. number_or_name n marks) (c.numbers_are_concatenations.ensures.integer c.args.base text negative size c.requires.highest_base digits)) in
    subst (λ (m : Result Meaning MeaningRefusal). AnswersMeaning c.meaning.result m) same c.meaning.ensures.gives
