use Rattle.std.proofs.Common.{ap, ap₂, ◌∙◌, codes}
use Rattle.std.proofs.lemmas.Result.{IfOk-weaker}
use Rattle.clap.specs.Words.{App, Text, with_subcommand}
use Rattle.command_words.specs.CommandLine.{one_sync_line}
use Rattle.command_words.proofs.task_lines.writing_command.Goals as goal

abbrev with_line : Text → App → App
with_line name program = with_subcommand program (one_sync_line name).top

pub returns : goal.returns
returns c =
    let run = c.in_ok-with_run.ensures.shape c.in_ok-run.ensures.local ∙ ap₂ with_subcommand c.program_command.ensures.line (ap (λ (a : App). a.top) c.in_ok-run.ensures.line) in
    let snapshot = c.in_ok-with_snapshot.ensures ∙ ap (with_line (codes "snapshot")) run in
    IfOk-weaker c.with_snapshot_command-2.result _ _ (λ _ is. is ∙ ap (with_line (codes "upgrade")) snapshot) c.with_snapshot_command-2.ensures
