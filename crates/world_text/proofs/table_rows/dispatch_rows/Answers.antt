use Rattle.world_text.specs.Snapshot.{dispatch_objects}
use Rattle.world_text.proofs.table_rows.dispatch_rows.Goals as goal

pub returns-clause-objects : goal.returns-clause-objects
unfolding dispatch_objects
returns-clause-objects c = c.pairs_below.ensures.objects

pub returns-clause-proper : goal.returns-clause-proper
returns-clause-proper c = c.pairs_below.ensures.proper
