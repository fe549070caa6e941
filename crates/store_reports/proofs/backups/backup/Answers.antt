use Rattle.std.proofs.Common.{inr}
use Rattle.store_reports.proofs.backups.backup.Goals as goal

pub returns-in-Err-clause-refused : goal.returns-in-Err-clause-refused
returns-in-Err-clause-refused g c = inr (c.in_ok-begin.ensures, c.take_away.ensures, c.in-Err.ensures)
