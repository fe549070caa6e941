-- What was seen of two files, as the state of a disk.
use Rattle.disk_trait.specs.Disk.{State}
use Rattle.log_look.specs.UnwrittenDisk.{still}
use Rattle.log_look.specs.declared.sight.Sight.{Sight}

-- a disk that holds what was seen, and on which nothing is pending
abbrev pub state_of_sight : Sight → State
state_of_sight s = still (record { a = s.a.items; b = s.b.items }) s.failures
