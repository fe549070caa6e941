-- What is done where a new store is made.
use Rattle.std.specs.Prelude.{List, ℕ, Option, Result}
use Rattle.disk_trait.specs.declared.host.HostError.{HostError}
use Rattle.disk_trait.specs.declared.host.IfMissing.{IfMissing}
use Rattle.store_reports.specs.declared.backups.BackupError.{BackupError}

-- Something that was done for a new store at this place, and what came of it. Until it is whole it is in a folder beside the place.
pub data Deed (D : Type 0) : Type 0 where
  -- the folder was made
  begun : List ℕ → Deed D
  -- it was not, and this is why
  not_begun : List ℕ → BackupError → Deed D
  -- the two files in it were opened, or not
  opened : List ℕ → IfMissing → Result D HostError → Deed D
  -- the disk told why the last call of it failed
  told : D → Option HostError → Deed D
  -- the folder got the name of the place
  placed : List ℕ → Deed D
  -- it did not, and this is why
  not_placed : List ℕ → BackupError → Deed D
  -- the folder was taken away
  taken_away : List ℕ → Deed D
