use Rattle.store_commands.proofs.FolderLaws.{existing_is_open}
use Rattle.store_commands.proofs.laws.existing_stores_are_open.Goals as goal

pub returns : goal.returns
returns g c = λ rt folder disk opened honest. existing_is_open g.R.Disk.Disk.state g.R.Disk.TellsCause.tells (g.R.Folders.opens rt) folder disk opened honest
