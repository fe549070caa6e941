use Rattle.store_looks.proofs.CheckedTexts.{seen_so}
use Rattle.store_looks.proofs.checking.seen_world.Goals as goal

pub returns-in-Ok-clause-world : goal.returns-in-Ok-clause-world
returns-in-Ok-clause-world g c =
    seen_so _ _ c.in_ok-sight.sight c.in_ok-store.store c.in_ok-store.ensures.opened c.world_text-text.result c.in_ok-text.field-0 c.as_slice.result.now c.in-Ok.world.0 c.world_text-text.ensures
    c.in_ok-text.was c.as_slice.ensures.value c.in-Ok.ensures.only
