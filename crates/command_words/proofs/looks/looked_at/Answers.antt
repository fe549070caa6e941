use Rattle.std.proofs.Common.{◌∙◌, codes}
use Rattle.clap.specs.Words.{found_of}
use Rattle.clap.proofs.WalkLemmas.{first_value-rows}
use Rattle.command_words.proofs.looks.looked_at.Goals as goal

pub returns-in_ok-look-in-Some : goal.returns-in_ok-look-in-Some
returns-in_ok-look-in-Some c = (c.in-Some.ensures ∙ first_value-rows (found_of c.args.found.now) (codes "DIR"), c.in_ok-look-in-Some.ensures)
