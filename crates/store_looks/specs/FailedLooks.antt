-- Why nothing is told of a store, and how a look ends then.
use Rattle.std.specs.Prelude.{◌≡◌}
use Rattle.disk_trait.specs.declared.host.HostError.{HostError}
use Rattle.lisp_object.specs.declared.refusal.TheConstants.{DAMAGED, DEVICE, NO_MEMORY, VERSION}
use Rattle.log_look.specs.declared.error.LogError.{LogError}
use Rattle.log_look.specs.declared.error.LogError.TheVariants as telling
use Rattle.store_commands.specs.Status.{status_of_host}
use Rattle.store_commands.specs.declared.status.Status.{Status}
use Rattle.store_commands.specs.declared.status.Status.TheVariants as statuses
use Rattle.store_reports.specs.declared.backups.BackupError.{BackupError}
use Rattle.store_reports.specs.declared.backups.BackupError.TheVariants as backing
use Rattle.store_reports.specs.declared.showing.ShowError.{ShowError}
use Rattle.store_reports.specs.declared.showing.ShowError.TheVariants as showing
use Rattle.store_looks.specs.declared.unlooked.Unlooked.{Unlooked}
use Rattle.store_looks.specs.declared.unlooked.Unlooked.TheVariants.{Fault, Host, Show, NoPlace, Taken, Unread}

-- how a look ends
abbrev pub status_of : Unlooked → Status
status_of (Fault number) = statuses.Fault number
status_of (Host error) = status_of_host error
status_of (Show error) = statuses.WordsRefused
status_of (NoPlace error) = statuses.WordsRefused
status_of (Taken error) = statuses.WordsRefused
status_of (Unread error) = statuses.WordsRefused

-- a log that is not opened, or has no such place
abbrev pub of_log : LogError → Unlooked
of_log telling.OutOfMemory = Fault NO_MEMORY
of_log telling.DeviceFault = Fault DEVICE
of_log telling.Damaged = Fault DAMAGED
of_log telling.UnknownVersion = Fault VERSION
of_log telling.DoesNotMix = Fault VERSION
of_log (telling.PastTheEnd records) = NoPlace (telling.PastTheEnd records)
of_log (telling.OtherGeneration generation) = NoPlace (telling.OtherGeneration generation)

-- properties that are not shown
abbrev pub of_show : ShowError → Unlooked
of_show showing.OutOfMemory = Fault NO_MEMORY
of_show showing.NoPackage = Show showing.NoPackage
of_show showing.NoSymbol = Show showing.NoSymbol
of_show showing.NoIndicator = Show showing.NoIndicator

-- a backup that was not made; one that differs from its world is a fault of the device
abbrev pub IsOfBackup : BackupError → Unlooked → Type 0
IsOfBackup backing.OutOfMemory why = why ≡ Fault NO_MEMORY
IsOfBackup backing.Exists why = why ≡ Taken backing.Exists
IsOfBackup (backing.Unfinished name) why = why ≡ Taken (backing.Unfinished name)
IsOfBackup (backing.Host error) why = why ≡ Host error
IsOfBackup (backing.Refused number) why = why ≡ Fault number
IsOfBackup backing.Differs why = (error : HostError) × (why ≡ Host error) × (status_of_host error ≡ statuses.Fault DEVICE)
