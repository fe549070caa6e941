use Rattle.std.proofs.Common.{◌++◌, ◌∙◌, ℕ, Option, ap, sym}
use Rattle.std.proofs.lemmas.Fmt.{contents_after_writes}
use Rattle.store_commands.specs.Report.{position_line}
use Rattle.store_commands.proofs.half_line.push_position.Goals as goal

pub returns : goal.returns
returns c =
    contents_after_writes _ (λ s. s.bytes) (λ _ _ _ t. t) _ _ _ c.in-Ok.ensures.writes
    ∙ ap (λ (found : Option ℕ). c.args.line.now.bytes ++ position_line found) (sym c.in-Some.is)
