use Rattle.std.proofs.Common.{refl, subst}
use Rattle.disk_trait.specs.Memory.{state_of}
use Rattle.disk_trait.specs.declared.memory.MemoryDisk.{MemoryDisk}
use Rattle.program_tests.proofs.crashed.reopened.Goals as goal

pub returns : goal.returns
returns g c =
    let o = c.in-Ok.ensures.opened in
    let left = c.in-Some.left in record {
      crashed = left;
      world = o.world;
      might = subst (λ (d : MemoryDisk). (state_of d).left_since (state_of d).moment (state_of left).reads) c.close-disk.ensures.disk c.in-Some.ensures.left;
      reopens = o.reopens refl;
      known = o.known;
    }
