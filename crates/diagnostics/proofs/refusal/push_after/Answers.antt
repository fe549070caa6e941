use Rattle.std.proofs.lemmas.Fmt.{contents_after_writes}
use Rattle.diagnostics.proofs.refusal.push_after.Goals as goal

pub returns : goal.returns
returns c = contents_after_writes _ (λ s. s.bytes) (λ _ _ _ t. t) _ _ _ c.in-Ok.ensures.writes
