use Rattle.std.proofs.lemmas.Result.{IfOk-weaker}
use Rattle.clap.specs.Words.{found_of}
use Rattle.command_words.proofs.FoundLooks.{look_found}
use Rattle.command_words.proofs.looks.looked_by.Goals as goal

pub returns-in-Some : goal.returns-in-Some
returns-in-Some c =
    IfOk-weaker c.looked_at.result _ _
    (λ looked is. look_found c.args.matches.now c.in-Some.name.now (found_of c.in-Some.found.now) looked.folder.now looked.look c.in-Some.ensures.name c.in-Some.ensures.rows is)
    c.looked_at.ensures
