use Rattle.store_looks.proofs.Looking.{verified_at}
use Rattle.store_looks.proofs.verifying.verified_of.Goals as goal

pub returns : goal.returns
returns g c =
    verified_at c.args.store.now c.half.result c.generation.result c.record_count.result c.in_ok-position.position c.verified.result
    c.half.ensures c.generation.ensures c.record_count.ensures c.verified.ensures c.in_ok-position.ensures
