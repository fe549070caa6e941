use Rattle.std.proofs.Common.{◌≡◌, ℕ, List, IfOk, subst}
use Rattle.world_text.proofs.ThreeLines.{all_kept}
use Rattle.world_text.proofs.writer.write.Goals as goal

pub returns : goal.returns
returns c = subst (λ (all : List ℕ). IfOk c.write_kept.result (λ text. text.items ≡ all)) (all_kept c.args.world.now.0) c.write_kept.ensures
