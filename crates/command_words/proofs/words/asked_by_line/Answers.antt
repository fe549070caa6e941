use Rattle.std.proofs.Common.{rules, ◌≡◌, ◌⊎◌, ◌∙◌, ap, sym, subst, map, Option, None, Some, option_and_then}
use Rattle.clap.specs.Words.{App, IsAmong, fault_of, is_simple, is_simple_and_free, kind_of, subcommand_of, subcommand_rows_of}
use Rattle.clap.specs.declared.error.kind.ErrorKind.{ErrorKind}
use Rattle.clap.specs.declared.error.kind.ErrorKind.TheVariants.{OutOfMemory}
use Rattle.command_words.specs.CommandLine.{Asked, asked_of, command_line, faults_of}
use Rattle.command_words.proofs.CommandLineLaws.{fault_of_clap, fault_of_none, free_line, memory_alone, no_faults, right_line, simple_line}
use Rattle.command_words.proofs.words.asked_by_line.Goals as goal

pub returns-in-Some-clause-asked : goal.returns-in-Some-clause-asked
returns-in-Some-clause-asked g c =
    let words = map g.S.AsStr.text c.args.words.now in
    let found_is : subcommand_rows_of c.in-Ok.matches ≡ subcommand_of command_line words = (c.in-Ok.ensures.ok.2 (ap is_simple c.requires ∙ simple_line)).1
    ∙ ap (λ (a : App). subcommand_of a words) c.requires in
    ap (option_and_then asked_of) (sym found_is) ∙ sym c.in-Some.ensures

pub returns-in-Some-clause-faults : goal.returns-in-Some-clause-faults
returns-in-Some-clause-faults g c =
    let words = map g.S.AsStr.text c.args.words.now in
    let found_is : subcommand_rows_of c.in-Ok.matches ≡ subcommand_of command_line words = (c.in-Ok.ensures.ok.2 (ap is_simple c.requires ∙ simple_line)).1
    ∙ ap (λ (a : App). subcommand_of a words) c.requires in
    no_faults words c.in-Some.asked.folder.now c.in-Some.asked.existing c.in-Some.asked.task
    (sym (ap (λ (a : App). fault_of a words) c.requires) ∙ c.in-Ok.ensures.kinds (ap is_simple_and_free c.requires ∙ free_line))
    (ap (option_and_then asked_of) (sym found_is) ∙ sym c.in-Some.ensures)

pub returns-in-Ok-clause-faults : goal.returns-in-Ok-clause-faults
returns-in-Ok-clause-faults g c =
    let words = map g.S.AsStr.text c.args.words.now in
    let found_is : subcommand_rows_of c.in-Ok.matches ≡ subcommand_of command_line words = (c.in-Ok.ensures.ok.2 (ap is_simple c.requires ∙ simple_line)).1
    ∙ ap (λ (a : App). subcommand_of a words) c.requires in
    fault_of_none words (kind_of c.nothing_asked.result)
    (sym (ap (λ (a : App). fault_of a words) c.requires) ∙ c.in-Ok.ensures.kinds (ap is_simple_and_free c.requires ∙ free_line))
    (c.in-None.ensures ∙ ap (option_and_then asked_of) found_is) c.nothing_asked.ensures

pub returns-in-Ok-clause-taken : goal.returns-in-Ok-clause-taken
returns-in-Ok-clause-taken g c = λ folder existing task asks.
    let words = map g.S.AsStr.text c.args.words.now in
    let found_is : subcommand_rows_of c.in-Ok.matches ≡ subcommand_of command_line words = (c.in-Ok.ensures.ok.2 (ap is_simple c.requires ∙ simple_line)).1
    ∙ ap (λ (a : App). subcommand_of a words) c.requires in
    let bad : ◌≡◌ {A = Option Asked} None (Some (folder, existing, task)) = c.in-None.ensures ∙ ap (option_and_then asked_of) found_is ∙ (right_line words folder existing task asks).asked in
    absurd (search rules)

pub returns-clause-taken : goal.returns-clause-taken
returns-clause-taken g c = λ folder existing task asks.
    let words = map g.S.AsStr.text c.args.words.now in
    c.with_tip.ensures ∙ memory_alone words (kind_of c.in-Err.error) (right_line words folder existing task asks).faultless
    (subst (λ (a : App). (kind_of c.in-Err.error ≡ OutOfMemory) ⊎ IsAmong (kind_of c.in-Err.error) (fault_of a words)) c.requires
    (c.in-Err.ensures.kinds (ap is_simple_and_free c.requires ∙ free_line)))

pub returns-clause-faults : goal.returns-clause-faults
returns-clause-faults g c =
    let words = map g.S.AsStr.text c.args.words.now in
    let told = fault_of_clap words (kind_of c.in-Err.error)
    (subst (λ (a : App). (kind_of c.in-Err.error ≡ OutOfMemory) ⊎ IsAmong (kind_of c.in-Err.error) (fault_of a words)) c.requires
    (c.in-Err.ensures.kinds (ap is_simple_and_free c.requires ∙ free_line))) in
    subst (λ (k : ErrorKind). (k ≡ OutOfMemory) ⊎ IsAmong k (faults_of words)) (sym c.with_tip.ensures) told
