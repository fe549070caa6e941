use Rattle.std.proofs.Common.{rules, None, Some, codes, refl}
use Rattle.clap.specs.Words.{first_value, found_of, rows_of, subcommand_rows_of}
use Rattle.command_words.specs.CommandLine.{number_among_rows}
use Rattle.command_words.specs.Rules.{is_set}
use Rattle.command_words.proofs.MessageLaws.{messages_found}
use Rattle.command_words.proofs.messages.messages_by.Goals as goal

pub returns-in_err-get_str : goal.returns-in_err-get_str
returns-in_err-get_str c =
    let found = found_of c.in_ok-_name.found.now in
    let flag = first_value found (codes "existing") in
    rw c.from_residual-in_err-get_str.ensures
    (messages_found (subcommand_rows_of c.args.matches.now) found None flag (is_set flag) (number_among_rows 0 (codes "snapshot-every") (rows_of found)) c.in_ok-_name.ensures.rows (search rules) refl refl refl)

pub returns : goal.returns
returns c =
    let found = found_of c.in_ok-_name.found.now in
    messages_found (subcommand_rows_of c.args.matches.now) found (Some c.in_ok-get_str.field-0.now) (first_value found (codes "existing")) c.flag_is_set.result c.number_in.result
    c.in_ok-_name.ensures.rows (search rules) (search rules) refl c.number_in.ensures
