use Rattle.std.proofs.Common.{sym}
use Rattle.wider_functions.proofs.files.more_functions_open.Goals as goal

pub returns-clause-opened : goal.returns-clause-opened
returns-clause-opened g c = λ fewer more disk macros limit store world among honest meant opened.
    sym ((opened.reopens honest).only world (c.files_keep_their_world.ensures.files fewer more (g.D.Disk.state disk).reads world among meant))

pub returns-clause-refused : goal.returns-clause-refused
returns-clause-refused g c = λ fewer more disk back whole limit number world among honest meant refused.
    refused.meant world honest (c.files_keep_their_world.ensures.files fewer more (g.D.Disk.state disk).reads world among meant)
