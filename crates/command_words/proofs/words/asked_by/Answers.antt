use Rattle.std.proofs.Common.{rules, None, Some, refl, codes}
use Rattle.clap.specs.Words.{first_value, found_of}
use Rattle.command_words.specs.Rules.{is_set}
use Rattle.command_words.proofs.FoundWords.{asked_found}
use Rattle.command_words.proofs.words.asked_by.Goals as goal

pub returns-in_err-get_str : goal.returns-in_err-get_str
returns-in_err-get_str c =
    let found = found_of c.in_ok-name.found.now in
    let flag = first_value found (codes "existing") in
    rw c.from_residual-in_err-get_str.ensures
    (asked_found c.args.matches.now c.in_ok-name.name.now found None flag (is_set flag) _ c.in_ok-name.ensures.name c.in_ok-name.ensures.rows (search rules) refl refl refl)

pub returns-in_err-task_for : goal.returns-in_err-task_for
returns-in_err-task_for c =
    let found = found_of c.in_ok-name.found.now in
    let flag = first_value found (codes "existing") in
    rw c.from_residual-in_err-task_for.ensures
    (asked_found c.args.matches.now c.in_ok-name.name.now found (Some c.in_ok-get_str.field-0.now) flag (is_set flag) None c.in_ok-name.ensures.name c.in_ok-name.ensures.rows (search rules) refl refl (search rules))

pub returns : goal.returns
returns c =
    let found = found_of c.in_ok-name.found.now in
    asked_found c.args.matches.now c.in_ok-name.name.now found (Some c.in_ok-get_str.field-0.now) (first_value found (codes "existing")) c.flag_is_set.result (Some c.in_ok-task_for.field-0)
    c.in_ok-name.ensures.name c.in_ok-name.ensures.rows (search rules) (search rules) refl (search rules)
