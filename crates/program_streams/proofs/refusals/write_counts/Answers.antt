use Rattle.std.proofs.Common.{◌≡◌, ◌∙◌, ◌++◌, ◌∷◌, [], List, ℕ, ap, subst, codes}
use Rattle.std.specs.Prelude.{OnOk, decimal}
use Rattle.std.proofs.lemmas.Fmt.{contents_after_writes}
use Rattle.program_streams.specs.AnswerText.{Gets, counts_line}
use Rattle.program_streams.proofs.refusals.write_counts.Given as given
use Rattle.program_streams.proofs.refusals.write_counts.Goals as goal

-- the line in memory is that of the counts
line_is : (g : given.Over) (c : goal.After-write_whole g) → c.as_bytes.result.now ≡ counts_line c.args.counts
line_is g c =
    let with_answers : ℕ → List ℕ = λ answers. codes "answers " ++ (decimal answers ++ (codes " refusals " ++ (decimal c.args.counts.refusals ++ 10 ∷ []))) in
    c.as_bytes.ensures.value
    ∙ c.deref.ensures.0
    ∙ contents_after_writes _ (λ s. s.bytes) (λ _ _ _ t. t) _ _ _ c.in-Ok.ensures.writes
    ∙ ap (λ l. l ++ with_answers c.saturating_add-answers.result) c.new-line.ensures
    ∙ ap with_answers c.saturating_add-answers.ensures

pub returns : goal.returns
returns g c =
    subst (λ l. OnOk c.write_whole.result (Gets (g.W.Write.contents c.args.writer.now) (g.W.Write.contents c.write_whole.new.output) l)) (line_is g c) c.write_whole.ensures
