use Rattle.std.proofs.Common.{List, arith, ap, ◌∙◌}
use Rattle.plist_state.specs.State.{WorldState}
use Rattle.world_text.proofs.SameText.{one_state}
use Rattle.snapshot_text.proofs.reader.read_with_seed.Goals as goal

pub approve-requires-clause-built : goal.approve-requires-clause-built
approve-requires-clause-built g c = λ s sound e.
    ap (λ (w : WorldState × List WorldState). w.0) c.settle.ensures ∙ c.in_ok-world.ensures s sound (omega arith) e

pub returns-in-Ok-clause-only : goal.returns-in-Ok-clause-only
returns-in-Ok-clause-only g c = λ s sound e.
    one_state c.args.version s c.settle.new.self.0 c.args.bytes.now sound c.soundness.ensures.present e c.in-Ok.ensures.text
