use Rattle.std.proofs.Common.{◌∙◌, codes}
use Rattle.clap.specs.Words.{found_of}
use Rattle.clap.proofs.WalkLemmas.{first_value-rows}
use Rattle.command_words.proofs.looks.look_for.Goals as goal

pub returns-in-Some : goal.returns-in-Some
returns-in-Some c = (c.in-backup.is, c.in-Some.ensures ∙ first_value-rows (found_of c.args.found.now) (codes "DEST"))
