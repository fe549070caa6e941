use Rattle.std.proofs.Common.{sym, subst, IsTrue}
use Rattle.disk_trait.specs.Replay.{are_bytes}
use Rattle.disk_trait.specs.ReplayBytes.{each_byte}
use Rattle.disk_trait.proofs.memory.copied.Goals as goal

pub returns-clause-bytes : goal.returns-clause-bytes
returns-clause-bytes c = subst (λ l. IsTrue (are_bytes l)) (sym c.in_ok-copy.ensures.items) (each_byte _ (λ i. (c.type_inv.bytes i).fits))
