use Rattle.clap.specs.Words.{found_of}
use Rattle.command_words.proofs.FoundLooks.{no_place, some_place}
use Rattle.command_words.proofs.looks.place_by.Goals as goal

pub returns-in_default : goal.returns-in_default
returns-in_default c = no_place (found_of c.args.found.now) c.args.option.now c.args.least c.get_str.result c.in_default.is c.get_str.ensures

pub returns-in-Some-of : goal.returns-in-Some-of
returns-in-Some-of c =
    some_place (found_of c.args.found.now) c.args.option.now c.args.least c.in-Some-of.place c.in-Some.value.now c.in-Some-of.ensures c.in-Some.ensures
