use Rattle.std.proofs.Common.{rules, ◌≡◌, ◌⊎◌, ◌∙◌, ap, sym, subst, map, Option, None, Some, option_and_then}
use Rattle.clap.specs.Words.{App, IsAmong, fault_of, is_simple, is_simple_and_free, kind_of, subcommand_of, subcommand_rows_of}
use Rattle.clap.specs.declared.error.kind.ErrorKind.{ErrorKind}
use Rattle.clap.specs.declared.error.kind.ErrorKind.TheVariants.{OutOfMemory}
use Rattle.command_words.specs.MessageLine.{Messages, message_faults, messages_line, messages_of}
use Rattle.command_words.proofs.MessageLaws.{fault_of_messages, fault_of_no_folder, free_messages_line, messages_or_memory, no_message_faults, right_messages, simple_messages_line}
use Rattle.command_words.proofs.messages.messages_by_line.Goals as goal

pub returns-in-Some-clause-asked : goal.returns-in-Some-clause-asked
returns-in-Some-clause-asked g c =
    let words = map g.S.AsStr.text c.args.words.now in
    let found_is : subcommand_rows_of c.in-Ok.matches ≡ subcommand_of messages_line words = (c.in-Ok.ensures.ok.2 (ap is_simple c.requires ∙ simple_messages_line)).1
    ∙ ap (λ (a : App). subcommand_of a words) c.requires in
    ap (option_and_then messages_of) (sym found_is) ∙ sym c.in-Some.ensures

pub returns-in-Some-clause-faults : goal.returns-in-Some-clause-faults
returns-in-Some-clause-faults g c =
    let words = map g.S.AsStr.text c.args.words.now in
    let found_is : subcommand_rows_of c.in-Ok.matches ≡ subcommand_of messages_line words = (c.in-Ok.ensures.ok.2 (ap is_simple c.requires ∙ simple_messages_line)).1
    ∙ ap (λ (a : App). subcommand_of a words) c.requires in
    no_message_faults words (c.in-Some.messages.folder.now, c.in-Some.messages.existing, c.in-Some.messages.snapshot_every)
    (sym (ap (λ (a : App). fault_of a words) c.requires) ∙ c.in-Ok.ensures.kinds (ap is_simple_and_free c.requires ∙ free_messages_line))
    (ap (option_and_then messages_of) (sym found_is) ∙ sym c.in-Some.ensures)

pub returns-in-Ok-clause-faults : goal.returns-in-Ok-clause-faults
returns-in-Ok-clause-faults g c =
    let words = map g.S.AsStr.text c.args.words.now in
    let found_is : subcommand_rows_of c.in-Ok.matches ≡ subcommand_of messages_line words = (c.in-Ok.ensures.ok.2 (ap is_simple c.requires ∙ simple_messages_line)).1
    ∙ ap (λ (a : App). subcommand_of a words) c.requires in
    fault_of_no_folder words (kind_of c.nothing_asked.result)
    (sym (ap (λ (a : App). fault_of a words) c.requires) ∙ c.in-Ok.ensures.kinds (ap is_simple_and_free c.requires ∙ free_messages_line))
    (c.in-None.ensures ∙ ap (option_and_then messages_of) found_is) c.nothing_asked.ensures

pub returns-in-Ok-clause-taken : goal.returns-in-Ok-clause-taken
returns-in-Ok-clause-taken g c = λ folder existing every asks.
    let words = map g.S.AsStr.text c.args.words.now in
    let found_is : subcommand_rows_of c.in-Ok.matches ≡ subcommand_of messages_line words = (c.in-Ok.ensures.ok.2 (ap is_simple c.requires ∙ simple_messages_line)).1
    ∙ ap (λ (a : App). subcommand_of a words) c.requires in
    let bad : ◌≡◌ {A = Option Messages} None (Some (folder, existing, every)) = c.in-None.ensures ∙ ap (option_and_then messages_of) found_is ∙ (right_messages words folder existing every asks).asked in
    absurd (search rules)

pub returns-clause-taken : goal.returns-clause-taken
returns-clause-taken g c = λ folder existing every asks.
    let words = map g.S.AsStr.text c.args.words.now in
    c.with_tip.ensures ∙ messages_or_memory words (kind_of c.in-Err.error) (right_messages words folder existing every asks).faultless
    (subst (λ (a : App). (kind_of c.in-Err.error ≡ OutOfMemory) ⊎ IsAmong (kind_of c.in-Err.error) (fault_of a words)) c.requires
    (c.in-Err.ensures.kinds (ap is_simple_and_free c.requires ∙ free_messages_line)))

pub returns-clause-faults : goal.returns-clause-faults
returns-clause-faults g c =
    let words = map g.S.AsStr.text c.args.words.now in
    let told = fault_of_messages words (kind_of c.in-Err.error)
    (subst (λ (a : App). (kind_of c.in-Err.error ≡ OutOfMemory) ⊎ IsAmong (kind_of c.in-Err.error) (fault_of a words)) c.requires
    (c.in-Err.ensures.kinds (ap is_simple_and_free c.requires ∙ free_messages_line))) in
    subst (λ (k : ErrorKind). (k ≡ OutOfMemory) ⊎ IsAmong k (message_faults words)) (sym c.with_tip.ensures) told
