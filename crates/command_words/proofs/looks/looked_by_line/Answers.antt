use Rattle.std.proofs.Common.{◌≡◌, ◌∙◌, ap, map, subst}
use Rattle.clap.specs.Words.{App, is_simple, subcommand_of, subcommand_rows_of}
use Rattle.command_words.specs.LookLine.{AsksToLookAt, looking_line}
use Rattle.command_words.specs.Rules.{FindsCommand}
use Rattle.command_words.proofs.FoundLooks.{simple_looking_line}
use Rattle.command_words.proofs.looks.looked_by_line.Goals as goal

pub returns-in-Ok-looked_by : goal.returns-in-Ok-looked_by
returns-in-Ok-looked_by g c =
    let words = map g.S.AsStr.text c.args.words.now in
    let found_is : subcommand_rows_of c.in-Ok.matches ≡ subcommand_of looking_line words = (c.in-Ok.ensures.ok.2 (ap is_simple c.requires ∙ simple_looking_line)).1
    ∙ ap (λ (a : App). subcommand_of a words) c.requires in
    subst (FindsCommand (AsksToLookAt c.in-Ok-looked_by.looked.folder.now c.in-Ok-looked_by.looked.look)) found_is c.in-Ok-looked_by.ensures
