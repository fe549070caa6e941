use Rattle.deferred_disk.specs.Disk.{calls_of}
use Rattle.deferred_disk.proofs.Between.{left_none, left_some}
use Rattle.deferred_disk.proofs.laws.between_orders.Goals as goal

pub returns-clause-none_open : goal.returns-clause-none_open
returns-clause-none_open c = λ old new first later image same both none parts left.
    left_none old.mixes new.mixes (calls_of old) (calls_of new) old.failures new.failures first later image same both parts left none

pub returns-clause-some_open : goal.returns-clause-some_open
returns-clause-some_open c = λ old new first later image same both parts left.
    left_some old.mixes new.mixes (calls_of old) (calls_of new) old.failures new.failures first later image same both parts left
