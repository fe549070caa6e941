use Rattle.std.proofs.Common.{ap, ◌∙◌}
use Rattle.std.proofs.lemmas.Result.{IfOk-weaker}
use Rattle.clap.specs.Words.{App, app_of, with_subcommand}
use Rattle.command_words.proofs.task_lines.with_snapshot_command.Goals as goal

pub returns : goal.returns
returns c =
    IfOk-weaker c.subcommand.result _ _
    (λ _ adds. adds.shape c.in_ok-command.ensures.local ∙ ap (λ (a : App). with_subcommand (app_of c.args.program) a.top) c.in_ok-command.ensures.line)
    c.subcommand.ensures
