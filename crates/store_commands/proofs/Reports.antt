-- From what is written of an open store to what the commands promise.
use Rattle.std.proofs.Common.{◌≡◌, ℕ, true, List, [], ◌++◌, Option, None, Some, Result, Ok, Err, refl, sym, ap, subst, ◌∙◌, inl, inr, append-nil, arith}
use Rattle.std.specs.Option.{IfSome, option_and_then}
use Rattle.disk_trait.specs.Disk.{State}
use Rattle.lisp_object.specs.declared.refusal.TheConstants.{OUTPUT, NO_MEMORY}
use Rattle.plist_state.specs.State.{WorldState}
use Rattle.world_text.specs.Snapshot.{snapshot}
use Rattle.messages.specs.Position.{position}
use Rattle.user_macros.specs.Functions.{Functions}
use Rattle.store_commands.specs.Commands.{TaskBreaksOff, TaskWrites, is_opening_fault}
use Rattle.store_commands.specs.Report.{DumpsWorld, IsReport, TellsHalfAndPosition}
use Rattle.store_commands.specs.Status.{HasFaultNumber, IsFaultNumber, TakesWords, status_of_output}
use Rattle.diagnostics.specs.StreamTexts.{WritesOut}
use Rattle.store_commands.specs.StatusAfterText.{TellsText}
use Rattle.diagnostics.specs.declared.fault.Unwritten.{Unwritten}
use Rattle.store_commands.specs.declared.status.Status.{Status}
use Rattle.store_commands.specs.declared.status.Status.TheVariants.{Done, Helped, FormRefused, Unanswered, WordsRefused, LeftOut, Fault}
use Rattle.store_commands.specs.declared.told.Remark.{Remark}
use Rattle.command_words.specs.declared.words.Report.{Report}
use Rattle.command_words.specs.declared.words.Report.TheVariants.{Dump, Verify}
use Rattle.command_words.specs.declared.words.Task.TheVariants.{Tell}
use Rattle.store_commands.proofs.Statuses.{other_number}

-- what was written is the text of this world
pub tells_world : (status : Status) (known : Option WorldState) (world : WorldState) (held written : Option (List ℕ)) (bytes : List ℕ) → known ≡ Some world → bytes ≡ snapshot world
    → TellsText status held written bytes → IfSome known (λ w. TellsText status held written (snapshot w))
tells_world status known world held written bytes is are told =
    subst (λ (o : Option WorldState). IfSome o (λ w. TellsText status held written (snapshot w))) (sym is) (subst (TellsText status held written) are told)

-- what was written is told of the position of this world
pub tells_position : (status : Status) (known : Option WorldState) (found : Option ℕ) (text : Option ℕ → List ℕ) (held written : Option (List ℕ)) → found ≡ option_and_then position known
    → TellsText status held written (text found) → IfSome known (λ w. TellsText status held written (text (position w)))
tells_position status None found text held written is told = tt
tells_position status (Some w) found text held written is told = subst (λ (f : Option ℕ). TellsText status held written (text f)) is told

-- how it ends after a text that was written whole, or not
pub told_by : (status : Status) (written : Result Unit Unwritten) (held now : Option (List ℕ)) (text : List ℕ) → status ≡ status_of_output written
    → WritesOut written held now text → TellsText status held now text
told_by status (Ok done) held now text is out = subst (λ (s : Status). TellsText s held now text) (sym is) out.whole
told_by status (Err cut) held now text is out = subst (λ (s : Status). TellsText s held now text) (sym is) (inl (refl, out.part))

-- the status of a text that was to be written
module _ (held written : Option (List ℕ)) (text : List ℕ) where
  pub text_taken : (status : Status) → TellsText status held written text → TakesWords status
  text_taken Done told = tt
  text_taken (Fault number) told = tt
  text_taken Helped told = absurd told
  text_taken FormRefused told = absurd told
  text_taken Unanswered told = absurd told
  text_taken WordsRefused told = absurd told
  text_taken LeftOut told = absurd told

  -- no text ends with a number of an opening
  numbers_of_text : (given : ℕ) → TellsText (Fault given) held written text → is_opening_fault given ≡ true → ⊥
  numbers_of_text given (inl cut) of = other_number given OUTPUT cut.0 refl of
  numbers_of_text given (inr none) of = other_number given NO_MEMORY none.0 refl of

  pub text_of_no_opening : (status : Status) (number : ℕ) → status ≡ Fault number → TellsText status held written text → is_opening_fault number ≡ true → ⊥
  text_of_no_opening status number is told of = numbers_of_text number (subst (λ (s : Status). TellsText s held written text) is told) of

  number_of_text : (number : ℕ) → TellsText (Fault number) held written text → IsFaultNumber number
  number_of_text number (inl cut) = subst IsFaultNumber (sym cut.0) (inr (inl (omega arith, omega arith)))
  number_of_text number (inr none) = inr (inr none.0)

  pub text_fault : (status : Status) → TellsText status held written text → HasFaultNumber status
  text_fault Done told = λ number is. absurd (cc)
  text_fault (Fault given) told = λ number is. let same : given ≡ number = cc in subst IsFaultNumber same (number_of_text given told)
  text_fault Helped told = absurd told
  text_fault FormRefused told = absurd told
  text_fault Unanswered told = absurd told
  text_fault WordsRefused told = absurd told
  text_fault LeftOut told = absurd told

  -- a fault left the first part of it
  front_of_text : (number : ℕ) (had : List ℕ) → held ≡ Some had → TellsText (Fault number) held written text → (front : List ℕ) × (rest : List ℕ) × (text ≡ front ++ rest) × (written ≡ Some (had ++ front))
  front_of_text number had holds (inl cut) = cut.1 had holds
  front_of_text number had holds (inr none) = ([], text, refl, none.1 ∙ holds ∙ ap (λ l. Some l) (sym (append-nil had)))

  pub text_front : (status : Status) (number : ℕ) (had : List ℕ) → held ≡ Some had → status ≡ Fault number → TellsText status held written text
      → (front : List ℕ) × (rest : List ℕ) × (text ≡ front ++ rest) × (written ≡ Some (had ++ front))
  text_front status number had holds is told = front_of_text number had holds (subst (λ (s : Status). TellsText s held written text) is told)

module _ (functions : Functions) {D R : Type 0} (state : D → State) (disk : D) (macros : R) (held written : Option (List ℕ)) (back : D) (had : List ℕ) (holds : held ≡ Some had) where
  dump_writes : (status : Status) → IsReport functions state Dump disk macros held written status back → DumpsWorld status had written
  dump_writes Done told = (told.is_opened.world, told.tells had holds)
  dump_writes (Fault number) told = tt
  dump_writes Helped told = tt
  dump_writes FormRefused told = absurd told.tells
  dump_writes Unanswered told = absurd told.tells
  dump_writes WordsRefused told = tt
  dump_writes LeftOut told = absurd told.tells

  verify_writes : (status : Status) → IsReport functions state Verify disk macros held written status back → TellsHalfAndPosition status had written
  verify_writes Done told = (told.opened.half, told.opened.generation, told.opened.record_count, position told.is_opened.world, told.tells had holds)
  verify_writes (Fault number) told = tt
  verify_writes Helped told = tt
  verify_writes FormRefused told = absurd told.tells
  verify_writes Unanswered told = absurd told.tells
  verify_writes WordsRefused told = tt
  verify_writes LeftOut told = absurd told.tells

  -- what a report writes that ends well, and one that is broken off
  pub report_writes : (report : Report) (status : Status) (said : Remark) (input : List ℕ) → IsReport functions state report disk macros held written status back
      → TaskWrites functions (Tell report) status said input had written
  report_writes Dump status said input told = dump_writes status told
  report_writes Verify status said input told = verify_writes status told

  pub report_breaks : (report : Report) (status : Status) (number : ℕ) (input : List ℕ) → status ≡ Fault number → IsReport functions state report disk macros held written status back
      → TaskBreaksOff functions (Tell report) input had written
  report_breaks Dump status number input is told = (told.is_opened.world, text_front held written _ status number had holds is told.tells)
  report_breaks Verify status number input is told =
      (told.opened.half, told.opened.generation, told.opened.record_count, position told.is_opened.world, text_front held written _ status number had holds is told.tells)
