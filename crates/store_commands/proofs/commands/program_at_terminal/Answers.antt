use Rattle.std.proofs.Common.{◌∙◌, ap, inl, map, refl, subst, sym}
use Rattle.clap.specs.Words.{Kinds, kind_of}
use Rattle.store_commands.specs.Output.{held_by}
use Rattle.store_commands.specs.Folders.{OpensStore}
use Rattle.command_words.specs.CommandLine.{asked_in, faults_of}
use Rattle.store_commands.specs.Status.{EndsAfter, IsStatusAfterWords, IsCarriedOut, TakesWords}
use Rattle.store_commands.proofs.AtTerminal.{moved_there, nothing_there}
use Rattle.command_words.proofs.FoundWords.{same_existing, same_folder, same_task}
use Rattle.store_commands.proofs.FolderLaws.{moved_sitting}
use Rattle.store_commands.specs.EndLines.{TellsFault}
use Rattle.store_commands.specs.declared.status.Status.{Status}
use Rattle.store_commands.specs.declared.told.Remark.TheVariants.{Nothing}
use Rattle.store_commands.proofs.Statuses.{ends_after, memory_at, only_memory, told_after_words, words_carry_out, words_open}
use Rattle.store_commands.proofs.commands.program_at_terminal.Given as given
use Rattle.store_commands.proofs.commands.program_at_terminal.Goals as goal

-- what is told of words that gave no command
told_of_words : (g : given.Over) (c : goal.After-drop-macros g) → TellsFault c.end_with.result Nothing (g.F.Write.contents c.args.faults.now) (g.F.Write.contents c.end_with.new.faults)
told_of_words g c =
    told_after_words c.answer_words-status.result c.end_with.result (g.F.Write.contents c.args.faults.now) (g.F.Write.contents c.answer_words-status.new.faults)
    (g.F.Write.contents c.end_with.new.faults) c.end_with.ensures.status (λ none. ap g.F.Write.contents (c.answer_words-status.ensures.told none)) c.end_with.ensures.told

-- and after a command
told_of_task : (g : given.Over) (c : goal.Joined-told g)
    → TellsFault c.end_with_told.result c.carry_out_at_terminal-status.result.1 (g.F.Write.contents c.args.faults.now) (g.F.Write.contents c.end_with_told.new.faults)
told_of_task g c =
    subst (λ (s : Status). TellsFault s c.carry_out_at_terminal-status.result.1 (g.F.Write.contents c.args.faults.now) (g.F.Write.contents c.end_with_told.new.faults)) (sym c.end_with_told.ensures.status)
    c.end_with_told.ensures.told

pub returns-in-Ok-clause-ends : goal.returns-in-Ok-clause-ends
returns-in-Ok-clause-ends g c =
    subst (λ (kinds : Kinds). EndsAfter kinds c.end_with_told.result) (sym c.in-Ok.ensures.faults)
    (subst TakesWords (sym c.end_with_told.ensures.status) c.carry_out_at_terminal-status.ensures.taken)

pub returns-in-Ok-clause-taken : goal.returns-in-Ok-clause-taken
returns-in-Ok-clause-taken g c = λ folder existing task taken.
    let asked = asked_in (map g.S.AsStr.text c.args.words.now) in
    let same = same_folder asked c.in-Ok.asked.folder.now folder c.in-Ok.asked.existing existing c.in-Ok.asked.task task c.in-Ok.ensures.asked taken.1 in
    let existing_too = same_existing asked c.in-Ok.asked.folder.now folder c.in-Ok.asked.existing existing c.in-Ok.asked.task task c.in-Ok.ensures.asked taken.1 in
    let likewise = same_task asked c.in-Ok.asked.folder.now folder c.in-Ok.asked.existing existing c.in-Ok.asked.task task c.in-Ok.ensures.asked taken.1 in (
      c.carry_out_at_terminal-status.result.1,
      moved_there _ g.I.Read.remaining (held_by g.O.Write.contents) _ _ _ _ c.carry_out_at_terminal-status.result.1 folder c.in-Ok.asked.folder.now task c.in-Ok.asked.task
          c.end_with_told.result c.carry_out_at_terminal-status.result.0 (sym same) (sym likewise) c.end_with_told.ensures.status c.carry_out_at_terminal-status.ensures.performs,
      told_of_task g c,
      moved_sitting _ _ _ _ g.I.Read.remaining (held_by g.O.Write.contents) _ _ _ _ (OpensStore _ g.R.Disk.TellsCause.tells (g.R.Folders.opens c.args.rt.now)) c.carry_out_at_terminal-status.result.1 folder c.in-Ok.asked.folder.now existing c.in-Ok.asked.existing
          task c.in-Ok.asked.task c.end_with_told.result c.carry_out_at_terminal-status.result.0 (sym same) (sym existing_too) (sym likewise) c.end_with_told.ensures.status c.carry_out_at_terminal-status.ensures.opened,
    )

pub returns-in-Err-clause-ends : goal.returns-in-Err-clause-ends
returns-in-Err-clause-ends g c =
    ends_after (faults_of (map g.S.AsStr.text c.args.words.now)) (kind_of c.in-Err.refusal) c.end_with.result c.in-Err.ensures.faults
    (subst (IsStatusAfterWords (kind_of c.in-Err.refusal)) (sym c.end_with.ensures.status) c.answer_words-status.ensures.status)

pub returns-in-Err-clause-taken : goal.returns-in-Err-clause-taken
returns-in-Err-clause-taken g c = λ folder existing task taken.
    let memory = only_memory (faults_of (map g.S.AsStr.text c.args.words.now)) (kind_of c.in-Err.refusal) taken.0 c.in-Err.ensures.faults in
    let ended = memory_at c.end_with.result c.answer_words-status.result (kind_of c.in-Err.refusal) c.end_with.ensures.status memory c.answer_words-status.ensures.status in (
      Nothing,
      nothing_there _ g.I.Read.remaining (held_by g.O.Write.contents) _ _ _ _ Nothing folder task c.end_with.result (inl ended)
          (refl, ap (λ o. record c.args.output.now { output = o }) (c.answer_words-status.ensures.memory (sym c.end_with.ensures.status ∙ ended))),
      told_of_words g c,
      inl (inl ended, (refl, ap (λ o. record c.args.output.now { output = o }) (c.answer_words-status.ensures.memory (sym c.end_with.ensures.status ∙ ended)))),
    )

pub returns-in-Ok-clause-untaken : goal.returns-in-Ok-clause-untaken
returns-in-Ok-clause-untaken g c = λ some. absurd (some c.in-Ok.ensures.faults)

pub returns-in-Err-clause-untaken : goal.returns-in-Err-clause-untaken
returns-in-Err-clause-untaken g c = λ some.
    let told = c.answer_words-status.ensures in
    let is = c.end_with.ensures.status in
    record {
      unread = refl;
      not_carried_out = λ carried. words_carry_out _ told.of_words (subst IsCarriedOut is carried);
      no_opening = λ number fault of. words_open _ told.of_words number (sym is ∙ fault) of;
      refused = λ refused. ap (λ o. record c.args.output.now { output = o }) (told.refused (sym is ∙ refused));
      memory = λ memory. ap (λ o. record c.args.output.now { output = o }) (told.memory (sym is ∙ memory));
    }

pub returns-in-Ok-clause-told : goal.returns-in-Ok-clause-told
returns-in-Ok-clause-told g c = (c.carry_out_at_terminal-status.result.1, told_of_task g c)

pub returns-in-Err-clause-told : goal.returns-in-Err-clause-told
returns-in-Err-clause-told g c = (Nothing, told_of_words g c)
