use Rattle.std.proofs.Common.{◌∙◌, ap, codes}
use Rattle.clap.specs.Words.{found_of}
use Rattle.clap.proofs.WalkLemmas.{first_value-rows}
use Rattle.command_words.specs.CheckLine.{file_given}
use Rattle.command_words.proofs.check.file_in.Goals as goal

pub returns-in-Some : goal.returns-in-Some
returns-in-Some c = c.file_named.ensures ∙ ap file_given (c.in-Some.ensures ∙ first_value-rows (found_of c.args.found.now) (codes "FILE"))

pub returns-in-None : goal.returns-in-None
returns-in-None c = ap file_given (c.in-None.ensures ∙ first_value-rows (found_of c.args.found.now) (codes "FILE"))
