use Rattle.std.proofs.Common.{ap, ap₂, ◌∙◌}
use Rattle.std.proofs.lemmas.Result.{IfOk-weaker}
use Rattle.clap.specs.Words.{App, with_subcommand}
use Rattle.command_words.proofs.look_lines.looking_command.Goals as goal

pub returns : goal.returns
returns c =
    IfOk-weaker c.subcommand.result _ _
    (λ _ adds. adds.shape c.in_ok-verify.ensures.local ∙ ap₂ with_subcommand c.in_ok-with_dump.ensures (ap (λ (a : App). a.top) c.in_ok-verify.ensures.line)) c.subcommand.ensures
