use Rattle.std.proofs.Common.{sym}
use Rattle.wider_functions.proofs.programs.newer_programs_open.Goals as goal

pub returns-clause-opened : goal.returns-clause-opened
returns-clause-opened g c = λ by fewer more disk macros limit store world rules among honest meant opened.
    sym ((opened.reopens honest).only world (c.newer_programs_keep_files.ensures.files by fewer more (g.D.Disk.state disk).reads world rules among meant))

pub returns-clause-refused : goal.returns-clause-refused
returns-clause-refused g c = λ by fewer more disk back whole limit number world rules among honest meant refused.
    refused.meant world honest (c.newer_programs_keep_files.ensures.files by fewer more (g.D.Disk.state disk).reads world rules among meant)
