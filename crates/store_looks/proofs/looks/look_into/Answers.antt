use Rattle.std.proofs.Common.{refl}
use Rattle.store_looks.proofs.Looking.{backed_up, dump_told, figures_told, log_told, shown_told, verified_told}
use Rattle.store_looks.proofs.looks.look_into.Goals as goal

pub returns-in-Dump-clause-looks : goal.returns-in-Dump-clause-looks
returns-in-Dump-clause-looks g c = dump_told _ _ _ _ _ _ _ _ _ c.in-Dump.place c.in-Dump.is c.dump.result c.dump.ensures.looks

pub returns-in-Show-clause-looks : goal.returns-in-Show-clause-looks
returns-in-Show-clause-looks g c = shown_told _ _ _ _ _ _ _ _ _ c.in-Show.shown c.in-Show.is c.show_on.result c.show_on.ensures.looks

pub returns-in-Info-clause-looks : goal.returns-in-Info-clause-looks
returns-in-Info-clause-looks g c = figures_told _ _ _ _ _ _ _ _ _ c.in-Info.part c.in-Info.is c.info_on.result c.info_on.ensures.looks

pub returns-in-Log-clause-looks : goal.returns-in-Log-clause-looks
returns-in-Log-clause-looks g c = log_told _ _ _ _ _ _ _ _ _ c.in-Log.records c.in-Log.is c.log_on.result c.log_on.ensures.lines c.log_on.ensures.none

pub returns-in-Backup-clause-looks : goal.returns-in-Backup-clause-looks
returns-in-Backup-clause-looks g c = backed_up _ _ _ _ _ _ _ _ _ c.in-Backup.to c.in-Backup.is refl c.back_up.result c.back_up.ensures

pub returns-in-Verify-clause-looks : goal.returns-in-Verify-clause-looks
returns-in-Verify-clause-looks g c = verified_told _ _ _ _ _ _ _ _ _ c.in-Verify.is c.verify_on.result c.verify_on.ensures.looks
