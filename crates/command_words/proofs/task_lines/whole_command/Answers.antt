use Rattle.std.proofs.Common.{ap, ap₂, ◌∙◌, codes}
use Rattle.std.proofs.lemmas.Result.{IfOk-weaker}
use Rattle.clap.specs.Words.{App, Text, with_subcommand}
use Rattle.command_words.specs.Rules.{folder_line}
use Rattle.command_words.proofs.task_lines.whole_command.Goals as goal

abbrev with_folder : Text → App → App
with_folder name program = with_subcommand program (folder_line name).top

pub returns : goal.returns
returns c =
    let export = c.in_ok-with_export.ensures.shape c.in_ok-export.ensures.local ∙ ap₂ with_subcommand c.in_ok-with_upgrade.ensures (ap (λ (a : App). a.top) c.in_ok-export.ensures.line) in
    let dump = c.in_ok-with_dump.ensures ∙ ap (with_folder (codes "dump")) export in
    IfOk-weaker c.with_command-2.result _ _ (λ _ is. is ∙ ap (with_folder (codes "verify")) dump) c.with_command-2.ensures
