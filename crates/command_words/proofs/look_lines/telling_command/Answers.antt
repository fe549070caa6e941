use Rattle.std.proofs.Common.{ap, ap₂, ◌∙◌}
use Rattle.std.proofs.lemmas.Result.{IfOk-weaker}
use Rattle.clap.specs.Words.{App, with_subcommand}
use Rattle.command_words.proofs.look_lines.telling_command.Goals as goal

pub returns : goal.returns
returns c =
    let show = c.in_ok-with_show.ensures.shape c.in_ok-show.ensures.local ∙ ap₂ with_subcommand c.bare_command.ensures.line (ap (λ (a : App). a.top) c.in_ok-show.ensures.line) in
    let info = c.in_ok-with_info.ensures.shape c.in_ok-info.ensures.local ∙ ap₂ with_subcommand show (ap (λ (a : App). a.top) c.in_ok-info.ensures.line) in
    IfOk-weaker c.subcommand-3.result _ _
    (λ _ adds. adds.shape c.in_ok-log.ensures.local ∙ ap₂ with_subcommand info (ap (λ (a : App). a.top) c.in_ok-log.ensures.line)) c.subcommand-3.ensures
