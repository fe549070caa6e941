use Rattle.command_words.proofs.FoundLooks.{none_parsed, number_parsed}
use Rattle.command_words.proofs.looks.number_of.Goals as goal

pub returns-in-Ok : goal.returns-in-Ok
returns-in-Ok c = number_parsed c.args.word.now c.in-Ok.number c.in-Ok.ensures.value.0

pub returns-in-Err : goal.returns-in-Err
returns-in-Err c = none_parsed c.args.word.now c.in-Err.field-0 c.in-Err.ensures.value.0
