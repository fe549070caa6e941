use Rattle.std.proofs.Common.{sym}
use Rattle.store_laws.proofs.version_1.version_1_opens.Goals as goal

pub returns-clause-opened : goal.returns-clause-opened
returns-clause-opened g c = λ functions disk macros limit store world honest meant opened.
    let stays = c.version_1_stays.ensures.files functions (g.D.Disk.state disk).reads world meant in
    (sym ((opened.reopens honest).only world stays.0), stays.1)

pub returns-clause-refused : goal.returns-clause-refused
returns-clause-refused g c = λ functions disk back whole limit number world honest meant refused.
    refused.meant world honest (c.version_1_stays.ensures.files functions (g.D.Disk.state disk).reads world meant).0
