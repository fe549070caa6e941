use Rattle.std.proofs.Common.{◌∙◌, ◌++◌, List, ℕ, ap, codes}
use Rattle.std.proofs.lemmas.Fmt.{contents_after_writes}
use Rattle.std.specs.Prelude.{decimal}
use Rattle.diagnostics.proofs.refusal.push_refused.Goals as goal

pub returns : goal.returns
returns c =
    let with_name : List ℕ → List ℕ = λ name. c.args.text.now.bytes ++ (codes "refused with " ++ (decimal c.args.number ++ (codes " " ++ (name ++ (codes " in form " ++ (decimal c.args.form ++ codes ", ")))))) in
    contents_after_writes _ (λ s. s.bytes) (λ _ _ _ t. t) _ _ _ c.in-Ok.ensures.writes
    ∙ ap with_name c.name_of-name.ensures
