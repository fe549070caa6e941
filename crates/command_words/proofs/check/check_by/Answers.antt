use Rattle.std.proofs.Common.{◌∙◌, ap, codes}
use Rattle.clap.specs.Words.{found_of, rows_of, subcommand_rows_of}
use Rattle.clap.proofs.WalkLemmas.{first_value-rows}
use Rattle.command_words.specs.Rules.{is_set}
use Rattle.command_words.proofs.FoundLooks.{check_found}
use Rattle.command_words.proofs.check.check_by.Goals as goal

pub returns : goal.returns
returns c =
    let f = found_of c.in_ok-_name.found.now in
    check_found (subcommand_rows_of c.args.matches.now) (rows_of f) _ c.in_ok-_name.ensures.rows
    (record {
      file = c.file_in.ensures;
      store = c.get_str.ensures ∙ first_value-rows f (codes "store");
      json = c.flag_is_set.ensures ∙ ap is_set (c.get_str-2.ensures ∙ first_value-rows f (codes "json"));
    })
