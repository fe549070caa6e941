-- From what is done at a terminal to what is promised of it.
use Rattle.std.proofs.Common.{◌≡◌, ◌∙◌, ℕ, Bool, List, [], ◌++◌, Option, Some, refl, sym, ap, subst, append-nil, inl, inr, arith}
use Rattle.disk_trait.specs.Disk.{State}
use Rattle.clap.specs.Words.{Text}
use Rattle.lisp_object.specs.declared.refusal.TheConstants.{DEVICE, INPUT, NO_MEMORY}
use Rattle.user_macros.specs.Functions.{Functions}
use Rattle.sessions.specs.declared.ending.Ended.{Ended}
use Rattle.session_words.specs.declared.wanted.SessionOptions.{SessionOptions}
use Rattle.store_commands.specs.Commands.{IsEarlyFault, AreStreamsUntouched, Performs, PerformsAtTerminal, PerformsInTurn, IsStatusOfUnopenedStore}
use Rattle.store_commands.specs.SessionsInRow.{AreSessions}
use Rattle.store_commands.specs.Status.{HasFaultNumber, IsFaultNumber, status_of_ended}
use Rattle.store_commands.specs.EndLines.{IsToldOf}
use Rattle.store_commands.specs.declared.status.Status.{Status}
use Rattle.store_commands.specs.declared.status.Status.TheVariants.{Fault}
use Rattle.store_commands.specs.declared.told.Remark.{Remark}
use Rattle.command_words.specs.declared.words.Task.{Task}
use Rattle.command_words.specs.declared.words.Task.TheVariants.{Export, Run, Snapshot, Tell, Upgrade}
use Rattle.store_commands.proofs.SessionLaws.{broken_at, fault_of_session, no_opening_at, nothing_written, number_of_opening}
use Rattle.store_commands.proofs.Statuses.{end_at, taken_at_end}
use Rattle.store_commands.proofs.Tasks.{performs_nothing}
use Rattle.store_commands.proofs.Turns.{earlier_go}

module _ (functions : Functions) {I O : Type 0} (remaining : I → Option (List ℕ)) (contents : O → Option (List ℕ)) (input left : I) (held written : O) (told : Remark) (folder : Text) where
  -- ---- sessions in a row

  abbrev InARow : SessionOptions → Status → Type 0
  InARow wanted status = PerformsInTurn functions remaining contents input left held written folder wanted status told

  -- a fault before anything was read or written
  row_untouched : (wanted : SessionOptions) (given : ℕ) → AreStreamsUntouched input left held written → IsFaultNumber given → (folder ≡ [] → IsEarlyFault (Fault given))
      → InARow wanted (Fault given)
  row_untouched wanted given same number nameless = record {
    taken = tt;
    nameless = λ none. (nameless none, same);
    unopened = λ other is of. same;
    fault = λ other is. let there : given ≡ other = cc in subst IsFaultNumber there number;
    breaks_off = λ text had other known holds is.
        (text, [], nothing_written functions wanted.mode text (had ++ []) (contents written) (ap contents same.1 ∙ holds ∙ ap (λ l. Some l) (sym (append-nil had))));
  }

  -- there is no memory, no seed, or the folder is not opened
  pub row_nothing : (wanted : SessionOptions) (status : Status) → IsEarlyFault status → AreStreamsUntouched input left held written → InARow wanted status
  row_nothing wanted status (inl is) same =
      subst (InARow wanted) (sym is) (row_untouched wanted NO_MEMORY same (inr (inr refl)) (λ none. inl refl))
  row_nothing wanted status (inr (inl is)) same =
      subst (InARow wanted) (sym is) (row_untouched wanted INPUT same (inr (inl (omega arith, omega arith))) (λ none. inr (inl refl)))
  row_nothing wanted status (inr (inr is)) same =
      subst (InARow wanted) (sym is) (row_untouched wanted DEVICE same (inl refl) (λ none. inr (inr refl)))

  -- ---- each task

  abbrev Performed : Task → Status → Type 0
  Performed task status = PerformsAtTerminal functions remaining contents input left held written folder task status told

  pub row_there : (task : Task) (status : Status) (wanted : SessionOptions) → task ≡ Run wanted → InARow wanted status → Performed task status
  row_there task status wanted is row = subst (λ (t : Task). Performed t status) (sym is) row

  -- each task but `run`
  pub performs_there : (task : Task) (status : Status) → ((wanted : SessionOptions) → task ≡ Run wanted → ⊥)
      → Performs functions remaining contents input left held written folder task status told → Performed task status
  performs_there (Run wanted) status other given = absurd (other wanted refl)
  performs_there Snapshot status other given = given
  performs_there Upgrade status other given = given
  performs_there (Export content) status other given = given
  performs_there (Tell report) status other given = given

  -- there is no memory, no seed, or the folder is not opened
  pub nothing_there : (task : Task) (status : Status) → IsEarlyFault status → AreStreamsUntouched input left held written → Performed task status
  nothing_there (Run wanted) status early same = row_nothing wanted status early same
  nothing_there Snapshot status early same = performs_nothing functions remaining contents input left held written told folder Snapshot status early same
  nothing_there Upgrade status early same = performs_nothing functions remaining contents input left held written told folder Upgrade status early same
  nothing_there (Export content) status early same =
      performs_nothing functions remaining contents input left held written told folder (Export content) status early same
  nothing_there (Tell report) status early same =
      performs_nothing functions remaining contents input left held written told folder (Tell report) status early same

-- ---- over a disk

module _ (functions : Functions) {D : Type 0} (state : D → State) (whole : Bool)
    {I O : Type 0} (remaining : I → Option (List ℕ)) (contents : O → Option (List ℕ)) (input left : I) (held written : O) (told : Remark) (folder : Text) where
  -- the store is not opened
  pub row_unopened : (disk back : D) (wanted : SessionOptions) (status : Status) → (folder ≡ [] → ⊥) → IsStatusOfUnopenedStore functions state disk back whole status
      → AreStreamsUntouched input left held written → PerformsInTurn functions remaining contents input left held written folder wanted status told
  row_unopened disk back wanted status named (number, is, unopened) same =
      subst (λ (s : Status). PerformsInTurn functions remaining contents input left held written folder wanted s told) (sym is)
      (row_untouched functions remaining contents input left held written told folder wanted number same (number_of_opening number unopened.fault unopened.number_is)
      (λ none. absurd (named none)))

module _ (functions : Functions) {D R : Type 0} (state : D → State) (macros : R)
    {I O : Type 0} (remaining : I → Option (List ℕ)) (contents : O → Option (List ℕ)) (input left : I) (held written : O) (told : Remark) (folder : Text) where
  pub row_of_sessions : (disk back : D) (wanted : SessionOptions) (status : Status) (ended : Ended) → (folder ≡ [] → ⊥) → status ≡ status_of_ended ended → IsToldOf ended told
      → AreSessions functions wanted state disk macros (remaining input) (remaining left) (contents held) (contents written) ended back → PerformsInTurn functions remaining contents input left held written folder wanted status told
  row_of_sessions disk back wanted status ended named is tells sessions =
      let (others, mid, between, begun, there, before, earlier, last, dropped) = sessions.serves in
      record {
        taken = taken_at_end status status ended refl is;
        nameless = λ none. absurd (named none);
        unopened = λ number fault of. absurd (no_opening_at functions wanted state mid sessions.closed between begun there before (contents written) ended number
            (end_at status status ended number refl is fault) last.0 of);
        fault = subst HasFaultNumber (sym is) (fault_of_session functions wanted state mid sessions.closed between begun there before (contents written) ended last.0);
        breaks_off = λ text had number known holds fault.
            let far = earlier_go functions wanted state others sessions.opened mid sessions.is_opened.world between (remaining input) begun (contents held) before earlier text had known holds in (
              far.0,
              far.1,
              broken_at functions wanted state mid sessions.closed between begun there before (contents written) ended number
                  (end_at status status ended number refl is fault) last.0 far.0 (had ++ far.1) far.2 far.3,
            );
      }

-- the same of what is equal
pub moved_there : (functions : Functions) {I O : Type 0} (remaining : I → Option (List ℕ)) (contents : O → Option (List ℕ))
    (input left : I) (held written : O) (told : Remark) (e f : Text) (t u : Task) (s r : Status) → e ≡ f → t ≡ u → s ≡ r
    → PerformsAtTerminal functions remaining contents input left held written f u r told
    → PerformsAtTerminal functions remaining contents input left held written e t s told
moved_there functions remaining contents input left held written told e f t u s r same_folder same_task same_status given =
    rw (same_folder, same_task, same_status) given
