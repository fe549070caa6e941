use Rattle.clap.specs.Words.{found_of}
use Rattle.command_words.proofs.FoundWords.{wanted_found}
use Rattle.command_words.proofs.words.wanted_in.Goals as goal

pub returns : goal.returns
returns c =
    wanted_found (found_of c.args.found.now) _ _ _ c.mode_for.result c.number_in.result c.number_in-2.result c.flag_is_set.result c.flag_is_set-2.result c.mode_for.ensures c.get_str.ensures
    c.number_in.ensures c.number_in-2.ensures c.flag_is_set.ensures c.get_str-2.ensures c.flag_is_set-2.ensures c.get_str-3.ensures
