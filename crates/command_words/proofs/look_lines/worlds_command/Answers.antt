use Rattle.std.proofs.Common.{ap, ap₂, ◌∙◌}
use Rattle.std.proofs.lemmas.Result.{IfOk-weaker}
use Rattle.clap.specs.Words.{App, with_subcommand}
use Rattle.command_words.proofs.look_lines.worlds_command.Goals as goal

pub returns : goal.returns
returns c =
    let backup = c.in_ok-with_backup.ensures.shape c.in_ok-backup.ensures.local ∙ ap₂ with_subcommand c.in_ok-with_log.ensures (ap (λ (a : App). a.top) c.in_ok-backup.ensures.line) in
    IfOk-weaker c.subcommand-2.result _ _
    (λ _ adds. adds.shape c.in_ok-dump.ensures.local ∙ ap₂ with_subcommand backup (ap (λ (a : App). a.top) c.in_ok-dump.ensures.line)) c.subcommand-2.ensures
