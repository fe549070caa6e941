use Rattle.std.proofs.Common.{◌∙◌}
use Rattle.std.specs.Str.Parse.{ExplainsUnsignedError, HasUnsignedDigitsIfOk, ParsesUnsigned}
use Rattle.clap.specs.Words.{found_of}
use Rattle.command_words.proofs.FoundWords.{number_read_in}
use Rattle.command_words.proofs.words.number_in.Goals as goal

pub returns : goal.returns
returns c =
    c.unwrap_or.ensures
    ∙ number_read_in (λ text r. ParsesUnsigned 64 10 text r × ExplainsUnsignedError 10 text r × HasUnsignedDigitsIfOk text r) (λ text r given. given.0) c.args.other (found_of c.args.found.now)
    c.args.option.now c.get_one.result c.get_one.ensures.none c.get_one.ensures.value
