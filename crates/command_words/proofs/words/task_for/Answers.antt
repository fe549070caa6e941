use Rattle.clap.specs.Words.{found_of}
use Rattle.command_words.proofs.FoundWords.{export_found, run_found}
use Rattle.command_words.proofs.words.task_for.Goals as goal

pub returns-in-run : goal.returns-in-run
returns-in-run c = run_found c.args.name.now (found_of c.args.found.now) c.wanted_in.result c.in-run.is c.wanted_in.ensures

pub returns-in-export : goal.returns-in-export
returns-in-export c =
    export_found c.args.name.now (found_of c.args.found.now) _ c.content_for.result c.in-export.is c.content_for.ensures c.get_str.ensures
