use Rattle.std.proofs.Common.{◌≡◌, Some, refl, sym, ap, subst, ◌∙◌}
use Rattle.disk_trait.specs.Memory.{state_of}
use Rattle.disk_trait.specs.declared.memory.MemoryDisk.{MemoryDisk}
use Rattle.prevalence_store.specs.Theorem.{Keeps}
use Rattle.program_tests.proofs.crashed.closed_again.Goals as goal

pub returns : goal.returns
returns g c =
    let functions = g.M.Meaning.Meaning.functions in
    let lived = c.in-Some.ensures in
    let found = c.in-Some-reopened.ensures in
    let later = c.in-Some-reopened.later in
    let known : later.world ≡ Some lived.0.world = found.known ∙ ap (λ w. Some w) (lived.1.reopened found.crashed later.disk found.world found.might found.reopens) in
    let keeps = c.keeps_its_world.ensures lived.0.world known refl in (
      lived.0,
      lived.1.accepted,
      subst (λ (d : MemoryDisk). Keeps functions (state_of d) lived.0.world) (sym c.close-disk.ensures.disk) keeps,
    )
