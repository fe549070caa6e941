use Rattle.std.proofs.Common.{◌≡◌, ◌∙◌, Bool, ℕ, Option, None, Some, ap, inl, map, refl, subst, sym}
use Rattle.clap.specs.Words.{Kinds, Text, kind_of}
use Rattle.command_words.specs.MessageLine.{Messages, message_faults, messages_in}
use Rattle.message_command.specs.Session.{ServesAfter}
use Rattle.store_commands.specs.Commands.{OpensFolder}
use Rattle.store_commands.specs.Folders.{OpensStore}
use Rattle.store_commands.specs.Status.{EndsAfter, IsStatusAfterWords}
use Rattle.store_commands.specs.declared.told.Remark.{Remark}
use Rattle.store_commands.specs.declared.told.Remark.TheVariants.{Nothing}
use Rattle.store_commands.proofs.Statuses.{ends_after, memory_at, only_memory}
use Rattle.user_macros.specs.Functions.{are_registered}
use Rattle.message_command.proofs.command.run_messages.Goals as goal

abbrev existing_in : Messages → Bool
existing_in (folder, existing, every) = existing

-- words ask for one folder, made or not
module _ (asked : Option Messages) (a b : Text) (m n : Bool) (k l : ℕ) (one : asked ≡ Some (a, m, k)) (other : asked ≡ Some (b, n, l)) where
  both : ◌≡◌ {A = Option Messages} (Some (a, m, k)) (Some (b, n, l))
  both = sym one ∙ other

  one_folder : a ≡ b
  one_folder = ap (λ (o : Option Messages). elim o [ None ↦ a | Some p ↦ p.0 ]) both

  one_existing : m ≡ n
  one_existing = ap (λ (o : Option Messages). elim o [ None ↦ m | Some p ↦ existing_in p ]) both

pub returns-in-Ok-clause-ends : goal.returns-in-Ok-clause-ends
returns-in-Ok-clause-ends g c = subst (λ (kinds : Kinds). EndsAfter kinds c.serve_asked.result) (sym c.in-Ok.ensures.faults) c.serve_asked.ensures.taken

pub returns-in-Ok-clause-opened : goal.returns-in-Ok-clause-opened
returns-in-Ok-clause-opened g c = λ folder existing every none is.
    let asked = messages_in (map g.S.AsStr.text c.args.words.now) in
    let messages = c.in-Ok.messages in
    let same = one_folder asked messages.folder.now folder messages.existing existing messages.snapshot_every every c.in-Ok.ensures.asked is in
    let likewise = one_existing asked messages.folder.now folder messages.existing existing messages.snapshot_every every c.in-Ok.ensures.asked is in
    let follows = ServesAfter g.M.Meaning.Meaning.functions g.R.Disk.Disk.state c.args.macros (are_registered g.M.Meaning.Meaning.functions (g.M.MacroFunctions.functions c.args.macros))
    g.I.Read.remaining g.O.Write.contents c.args.input.now c.serve_asked.new.input c.args.output.now c.serve_asked.new.output None c.serve_asked.result in
    subst (λ (f : Text). (told : Remark) × OpensFolder c.args.input.now c.serve_asked.new.input c.args.output.now c.serve_asked.new.output
    (OpensStore g.R.Disk.Disk.state g.R.Disk.TellsCause.tells (g.R.Folders.opens c.args.rt.now)) follows f existing c.serve_asked.result told) same
    (subst (λ (m : Bool). (told : Remark) × OpensFolder c.args.input.now c.serve_asked.new.input c.args.output.now c.serve_asked.new.output
    (OpensStore g.R.Disk.Disk.state g.R.Disk.TellsCause.tells (g.R.Folders.opens c.args.rt.now)) follows messages.folder.now m c.serve_asked.result told) likewise
    c.serve_asked.ensures.opened)

pub returns-in-Err-clause-ends : goal.returns-in-Err-clause-ends
returns-in-Err-clause-ends g c =
    ends_after (message_faults (map g.S.AsStr.text c.args.words.now)) (kind_of c.in-Err.error) c.end_with.result c.in-Err.ensures.faults
    (subst (IsStatusAfterWords (kind_of c.in-Err.error)) (sym c.end_with.ensures.status) c.answer_words-status.ensures.status)

pub returns-in-Err-clause-opened : goal.returns-in-Err-clause-opened
returns-in-Err-clause-opened g c = λ folder existing every none is.
    let memory = only_memory (message_faults (map g.S.AsStr.text c.args.words.now)) (kind_of c.in-Err.error) none c.in-Err.ensures.faults in
    let ended = memory_at c.end_with.result c.answer_words-status.result (kind_of c.in-Err.error) c.end_with.ensures.status memory c.answer_words-status.ensures.status in
    (Nothing, inl (inl ended, (refl, c.answer_words-status.ensures.memory (sym c.end_with.ensures.status ∙ ended))))
