use Rattle.std.proofs.Common.{◌∙◌, ◌++◌, ◌∷◌, [], List, ℕ, ap, codes}
use Rattle.std.proofs.lemmas.Fmt.{contents_after_writes}
use Rattle.std.specs.Prelude.{decimal}
use Rattle.store_commands.proofs.half_line.push_half.Goals as goal

pub returns : goal.returns
returns c =
    let with_letter : List ℕ → List ℕ = λ letter. c.args.line.now.bytes ++ (codes "half " ++ (letter ++ (codes " generation " ++ (decimal c.args.generation ++ (codes " records " ++ (decimal c.args.records ++ 10 ∷ [])))))) in
    contents_after_writes _ (λ s. s.bytes) (λ _ _ _ t. t) _ _ _ c.in-Ok.ensures.writes
    ∙ ap with_letter c.letter_of-letter.ensures
