-- From what a task does to all that is promised of it.
use Rattle.std.proofs.Common.{◌≡◌, ◌⊎◌, ◌++◌, ℕ, Bool, true, true≢false, List, [], Option, None, Some, refl, sym, ap, subst, ◌∙◌, inl, inr, append-nil, arith}
use Rattle.disk_trait.specs.Disk.{State}
use Rattle.disk_trait.specs.declared.half.Half.TheVariants.{A}
use Rattle.lisp_object.specs.declared.refusal.TheConstants.{DEVICE, INPUT, NO_MEMORY}
use Rattle.clap.specs.Words.{Text}
use Rattle.plist_state.specs.State.{WorldState, initial}
use Rattle.world_text.specs.Snapshot.{snapshot}
use Rattle.world_forms.specs.Forms.{forms}
use Rattle.user_macros.specs.Functions.{Functions}
use Rattle.sessions.specs.declared.ending.Ended.{Ended}
use Rattle.sessions.specs.declared.ending.Ended.TheVariants.{End, Store, Unaccepted, Unreadable}
use Rattle.session_words.specs.declared.wanted.SessionOptions.{SessionOptions}
use Rattle.store_commands.specs.Commands.{IsCarriedOutOn, DoesOn, IsEarlyFault, AreStreamsUntouched, Performs, TaskBreaksOff, TaskReads, TaskWrites, IsStatusOfUnopenedStore, is_opening_fault}
use Rattle.store_commands.specs.Report.{IsExport, IsReport, IsSnapshot, IsUpgrade, half_line, position_line, version_line}
use Rattle.prevalence_store.specs.calls.Open.{IsUnopened}
use Rattle.prevalence_store.specs.calls.Store.{StoreView}
use Rattle.sessions.specs.Serve.{ServesWanted}
use Rattle.store_commands.specs.Session.{AnswersInput, IsSession, IsStatusAfter, ReadsToEnd, half_limit}
use Rattle.store_commands.specs.Status.{HasFaultNumber, IsFaultNumber, TakesWords, status_of_ended}
use Rattle.store_commands.specs.EndLines.{IsToldOf, left_out_of}
use Rattle.store_commands.specs.declared.told.Remark.{Remark}
use Rattle.store_commands.specs.declared.told.Remark.TheVariants.{Nothing}
use Rattle.store_commands.specs.declared.status.Status.{Status}
use Rattle.store_commands.specs.declared.status.Status.TheVariants.{Fault, Unanswered}
use Rattle.command_words.specs.declared.words.Report.{Report}
use Rattle.command_words.specs.declared.words.Report.TheVariants.{Dump, Verify}
use Rattle.command_words.specs.declared.words.Task.{Task}
use Rattle.command_words.specs.declared.words.Task.TheVariants.{Export, Run, Snapshot, Tell, Upgrade}
use Rattle.store_commands.proofs.Reports.{report_breaks, report_writes, text_fault, text_of_no_opening, text_taken}
use Rattle.store_commands.proofs.SessionLaws.{answers_input, broken_anyhow, broken_at, fault_of_session, no_opening_at, nothing_written, number_of_opening, reads_to_end}
use Rattle.store_commands.proofs.Snapshots.{snapshot_breaks, snapshot_fault, snapshot_of_no_opening, snapshot_taken, snapshot_writes}
use Rattle.store_commands.proofs.Upgrades.{forms_break, forms_fault, forms_of_no_opening, forms_taken, forms_written, upgrade_breaks, upgrade_fault, upgrade_of_no_opening, upgrade_taken, upgrade_writes}
use Rattle.session_words.specs.declared.content.Content.{Content}
use Rattle.store_commands.proofs.Accounts.{IsFaultOfCut, ends_as}
use Rattle.store_commands.proofs.Statuses.{end_at, other_number, taken_at_end}

-- a session that answered nothing met no fault
no_fault : (number : ℕ) → Unanswered ≡ Fault number → ⊥
no_fault number is = absurd (cc)

-- what a cut of zeros is refused with
same_number : (number given : ℕ) → Fault number ≡ Fault given → number ≡ given
same_number number given is = cc

cut_of_no_opening : (number : ℕ) → IsFaultOfCut number → is_opening_fault number ≡ true → ⊥
cut_of_no_opening number (inl device) of = other_number number DEVICE device refl of
cut_of_no_opening number (inr memory) of = other_number number NO_MEMORY memory refl of

cut_fault : (number : ℕ) → IsFaultOfCut number → IsFaultNumber number
cut_fault number (inl device) = inl device
cut_fault number (inr memory) = inr (inr memory)

-- after a fault, with nothing read and nothing written
module _ (functions : Functions) (input had : List ℕ) (left written : Option (List ℕ)) where
  breaks_nothing : (task : Task) → written ≡ Some had → TaskBreaksOff functions task input had written
  breaks_nothing (Run wanted) holds = nothing_written functions wanted.mode input had written holds
  breaks_nothing Snapshot holds = (A, 0, 0, ([], half_line A 0 0, refl, holds ∙ ap (λ l. Some l) (sym (append-nil had))))
  breaks_nothing Upgrade holds = (0, ([], version_line 0, refl, holds ∙ ap (λ l. Some l) (sym (append-nil had))))
  breaks_nothing (Export content) holds = (initial, ([], forms initial content, refl, holds ∙ ap (λ l. Some l) (sym (append-nil had))))
  breaks_nothing (Tell Dump) holds = (initial, ([], snapshot initial, refl, holds ∙ ap (λ l. Some l) (sym (append-nil had))))
  breaks_nothing (Tell Verify) holds = (A, 0, 0, None, ([], half_line A 0 0 ++ position_line None, refl, holds ∙ ap (λ l. Some l) (sym (append-nil had))))

  reads_nothing : (task : Task) (number : ℕ) → left ≡ Some input → TaskReads task (Fault number) input left
  reads_nothing Snapshot number holds = holds
  reads_nothing Upgrade number holds = holds
  reads_nothing (Export content) number holds = holds
  reads_nothing (Tell report) number holds = holds
  reads_nothing (Run wanted) number holds = tt

  writes_nothing : (task : Task) (number : ℕ) (told : Remark) → TaskWrites functions task (Fault number) told input had written
  writes_nothing (Run wanted) number told = tt
  writes_nothing Snapshot number told = tt
  writes_nothing Upgrade number told = tt
  writes_nothing (Export content) number told = tt
  writes_nothing (Tell Dump) number told = tt
  writes_nothing (Tell Verify) number told = tt

module _ (functions : Functions) {I O : Type 0} (remaining : I → Option (List ℕ)) (contents : O → Option (List ℕ)) (input left : I) (held written : O) (told : Remark) where
  abbrev Performed : Text → Task → Status → Type 0
  Performed folder task status = Performs functions remaining contents input left held written folder task status told

  -- a fault before anything was read or written
  untouched : (folder : Text) (task : Task) (given : ℕ) → AreStreamsUntouched input left held written → IsFaultNumber given
      → (folder ≡ [] → IsEarlyFault (Fault given)) → Performed folder task (Fault given)
  untouched folder task given same number nameless = record {
    taken = tt;
    nameless = λ none. (nameless none, same);
    unread = λ none. same.0;
    unopened = λ other is of. same;
    fault = λ other is. let there : given ≡ other = cc in subst IsFaultNumber there number;
    reads = λ text had. reads_nothing functions text [] (remaining left) None task given (ap remaining same.0 ∙ had);
    writes = λ text had reads holds. writes_nothing functions text had None (contents written) task given told;
    breaks_off = λ text had other reads holds is. breaks_nothing functions text had None (contents written) task (ap contents same.1 ∙ holds);
  }

  -- there is no memory, no seed, or the folder is not opened
  pub performs_nothing : (folder : Text) (task : Task) (status : Status) → IsEarlyFault status
      → AreStreamsUntouched input left held written → Performed folder task status
  performs_nothing folder task status (inl is) same =
      subst (Performed folder task) (sym is)
      (untouched folder task NO_MEMORY same (inr (inr refl)) (λ none. inl refl))
  performs_nothing folder task status (inr (inl is)) same =
      subst (Performed folder task) (sym is)
      (untouched folder task INPUT same (inr (inl (omega arith, omega arith))) (λ none. inr (inl refl)))
  performs_nothing folder task status (inr (inr is)) same =
      subst (Performed folder task) (sym is)
      (untouched folder task DEVICE same (inl refl) (λ none. inr (inr refl)))

module _ (functions : Functions) {D R : Type 0} (state : D → State) (macros : R) (whole : Bool)
    {I O : Type 0} (remaining : I → Option (List ℕ)) (contents : O → Option (List ℕ)) (input left : I) (held written : O) (told : Remark) where
  abbrev PerformedHere : Text → Task → Status → Type 0
  PerformedHere folder task status = Performs functions remaining contents input left held written folder task status told

  -- the store is not opened
  performs_unopened : (disk back : D) (folder : Text) (task : Task) (status : Status) → (folder ≡ [] → ⊥)
      → IsStatusOfUnopenedStore functions state disk back whole status → AreStreamsUntouched input left held written → PerformedHere folder task status
  performs_unopened disk back folder task status named (number, is, unopened) same =
      subst (PerformedHere folder task) (sym is) (untouched functions remaining contents input left held written told folder task number same (number_of_opening number unopened.fault unopened.number_is)
      (λ none. absurd (named none)))

  module _ (folder : Text) (wanted : SessionOptions) (status : Status) (opened served : StoreView D R) (world : WorldState) (named : folder ≡ [] → ⊥) where
    abbrev ServesSo : Ended → Type 0
    ServesSo = ServesWanted functions state wanted opened served world (remaining input) (remaining left) (contents held) (contents written)

    -- a session that ended as it served
    performs_served : (ended : Ended) → IsStatusAfter functions wanted ended status → IsToldOf ended told → ServesSo ended → PerformedHere folder (Run wanted) status
    performs_served ended (inr (strict, at_end, is)) tells serves =
        let ended_well = subst ServesSo at_end serves in
        record {
          taken = subst TakesWords (sym is) tt;
          nameless = λ none. absurd (named none);
          unread = λ none. absurd (true≢false none);
          unopened = λ number fault of. absurd (no_fault number (sym is ∙ fault));
          fault = λ number fault. absurd (no_fault number (sym is ∙ fault));
          reads = λ text had. subst (λ (s : Status). ReadsToEnd s (remaining left)) (sym is)
              (reads_to_end functions wanted state opened served world _ _ _ _ End ended_well text had);
          writes = λ text had reads holds. subst (λ (s : Status). AnswersInput functions wanted s told text had (contents written)) (sym is)
              (strict, answers_input functions wanted state opened served world _ _ _ _ End told tt ended_well text had reads holds);
          breaks_off = λ text had number reads holds fault. absurd (no_fault number (sym is ∙ fault));
        }
    performs_served ended (inl is) tells serves = record {
      taken = taken_at_end status status ended refl is;
      nameless = λ none. absurd (named none);
      unread = λ none. absurd (true≢false none);
      unopened = λ number fault of. absurd (no_opening_at functions wanted state opened served world _ _ _ _ ended number (end_at status status ended number refl is fault) serves of);
      fault = subst HasFaultNumber (sym is) (fault_of_session functions wanted state opened served world _ _ _ _ ended serves);
      reads = λ text had. subst (λ (s : Status). ReadsToEnd s (remaining left)) (sym is)
          (reads_to_end functions wanted state opened served world _ _ _ _ ended serves text had);
      writes = λ text had reads holds. subst (λ (s : Status). AnswersInput functions wanted s told text had (contents written)) (sym is)
          (answers_input functions wanted state opened served world _ _ _ _ ended told tells serves text had reads holds);
      breaks_off = λ text had number reads holds fault.
          broken_at functions wanted state opened served world _ _ _ _ ended number (end_at status status ended number refl is fault) serves text had reads holds;
    }

    -- or one after which zeros could not be cut
    performs_uncut : (served_ended ended : Ended) (number : ℕ) → IsStatusAfter functions wanted ended status → ended ≡ Store number → IsFaultOfCut number → ServesSo served_ended
        → PerformedHere folder (Run wanted) status
    performs_uncut served_ended ended number (inr (strict, at_end, is)) failed of_cut serves = let bad : Store number ≡ End = sym failed ∙ at_end in absurd (cc)
    performs_uncut served_ended ended number (inl after) failed of_cut serves =
        let is : status ≡ Fault number = after ∙ ap status_of_ended failed in
        record {
          taken = subst TakesWords (sym is) tt;
          nameless = λ none. absurd (named none);
          unread = λ none. absurd (true≢false none);
          unopened = λ given fault of. absurd (cut_of_no_opening given (subst IsFaultOfCut (same_number number given (sym is ∙ fault)) of_cut) of);
          fault = λ given fault. cut_fault given (subst IsFaultOfCut (same_number number given (sym is ∙ fault)) of_cut);
          reads = λ text had. subst (λ (s : Status). ReadsToEnd s (remaining left)) (sym is) tt;
          writes = λ text had reads holds. subst (λ (s : Status). AnswersInput functions wanted s told text had (contents written)) (sym is) tt;
          breaks_off = λ text had given reads holds fault. broken_anyhow functions wanted state opened served world _ _ _ _ served_ended serves text had reads holds;
        }

  performs_session : (disk back : D) (folder : Text) (wanted : SessionOptions) (status : Status) → (folder ≡ [] → ⊥)
      → IsCarriedOutOn functions state macros whole remaining contents input left held written disk back (Run wanted) status told
      → PerformedHere folder (Run wanted) status
  performs_session disk back folder wanted status named (ended, after, tells, session) =
      elim (ends_as functions state session.served session.closed session.cuts session.served_ended ended session.ended_is) [
        | inl same ↦ performs_served folder wanted status session.opened session.served session.is_opened.world named ended after tells
            (subst (ServesSo folder wanted status session.opened session.served session.is_opened.world named) (sym same) session.serves)
        | inr uncut ↦
            performs_uncut folder wanted status session.opened session.served session.is_opened.world named session.served_ended ended uncut.0 after uncut.1 uncut.2 session.serves
      ]

  performs_snapshot : (disk back : D) (folder : Text) (status : Status) → (folder ≡ [] → ⊥)
      → IsCarriedOutOn functions state macros whole remaining contents input left held written disk back Snapshot status told
      → PerformedHere folder Snapshot status
  performs_snapshot disk back folder status named (done, same) =
      let old = done.opened in
      let new = done.closed in
      let world = done.is_opened.world in
      record {
        taken = snapshot_taken functions state old new world _ _ done.outcome status done.tells;
        nameless = λ none. absurd (named none);
        unread = λ none. same;
        unopened = λ number is of. absurd (snapshot_of_no_opening functions state old new world _ _ done.outcome status number is done.snapshots done.tells of);
        fault = snapshot_fault functions state old new world _ _ done.outcome status done.snapshots done.tells;
        reads = λ text had. ap remaining same ∙ had;
        writes = λ text had reads holds. snapshot_writes functions state old new world (contents held) (contents written) had holds done.outcome status done.tells;
        breaks_off = λ text had number reads holds is.
            snapshot_breaks functions state old new world (contents held) (contents written) had holds done.outcome status number text is done.tells;
      }

  performs_upgrade : (disk back : D) (folder : Text) (status : Status) → (folder ≡ [] → ⊥)
      → IsCarriedOutOn functions state macros whole remaining contents input left held written disk back Upgrade status told
      → PerformedHere folder Upgrade status
  performs_upgrade disk back folder status named (done, same) =
      let old = done.opened in
      let new = done.closed in
      let world = done.is_opened.world in
      record {
        taken = upgrade_taken functions state old new world _ _ done.outcome status done.tells;
        nameless = λ none. absurd (named none);
        unread = λ none. same;
        unopened = λ number is of. absurd (upgrade_of_no_opening functions state old new world _ _ done.outcome status number is done.upgrades done.tells of);
        fault = upgrade_fault functions state old new world _ _ done.outcome status done.upgrades done.tells;
        reads = λ text had. ap remaining same ∙ had;
        writes = λ text had reads holds. upgrade_writes functions state old new world (contents held) (contents written) had holds done.outcome status done.tells;
        breaks_off = λ text had number reads holds is.
            upgrade_breaks functions state old new world (contents held) (contents written) had holds done.outcome status number text is done.tells;
      }

  performs_export : (disk back : D) (folder : Text) (content : Content) (status : Status) → (folder ≡ [] → ⊥)
      → IsCarriedOutOn functions state macros whole remaining contents input left held written disk back (Export content) status told
      → PerformedHere folder (Export content) status
  performs_export disk back folder content status named (done, same) = record {
    taken = forms_taken _ _ _ _ _ status done.tells;
    nameless = λ none. absurd (named none);
    unread = λ none. same;
    unopened = λ number is of. absurd (forms_of_no_opening _ _ _ _ _ status number is done.tells of);
    fault = forms_fault _ _ _ _ _ status done.tells;
    reads = λ text had. ap remaining same ∙ had;
    writes = λ text had reads holds. forms_written (contents held) (contents written) _ _ _ had holds status done.tells;
    breaks_off = λ text had number reads holds is.
        forms_break (contents held) (contents written) _ _ _ had holds functions status number text is done.tells;
  }

  performs_report : (disk back : D) (folder : Text) (report : Report) (status : Status) → (folder ≡ [] → ⊥)
      → IsCarriedOutOn functions state macros whole remaining contents input left held written disk back (Tell report) status told
      → PerformedHere folder (Tell report) status
  performs_report disk back folder report status named (done, same) = record {
    taken = text_taken _ _ _ status done.tells;
    nameless = λ none. absurd (named none);
    unread = λ none. same;
    unopened = λ number is of. absurd (text_of_no_opening _ _ _ status number is done.tells of);
    fault = text_fault _ _ _ status done.tells;
    reads = λ text had. ap remaining same ∙ had;
    writes = λ text had reads holds. report_writes functions state disk macros (contents held) (contents written) back had holds report status told text done;
    breaks_off = λ text had number reads holds is.
        report_breaks functions state disk macros (contents held) (contents written) back had holds report status number text is done;
  }

  -- it was done over a disk
  pub performs_on : (disk back : D) (folder : Text) (task : Task) (status : Status) → (folder ≡ [] → ⊥)
      → DoesOn functions state macros whole remaining contents input left held written disk back task status told → PerformedHere folder task status
  performs_on disk back folder (Run wanted) status named (inl done) = performs_session disk back folder wanted status named done
  performs_on disk back folder Snapshot status named (inl done) = performs_snapshot disk back folder status named done
  performs_on disk back folder Upgrade status named (inl done) = performs_upgrade disk back folder status named done
  performs_on disk back folder (Export content) status named (inl done) = performs_export disk back folder content status named done
  performs_on disk back folder (Tell report) status named (inl done) = performs_report disk back folder report status named done
  performs_on disk back folder task status named (inr (unopened, same)) = performs_unopened disk back folder task status named unopened same

  -- the store was not opened
  pub does_not : (disk back given : D) (task : Task) (status : Status) (number : ℕ) → status ≡ Fault number → back ≡ given
      → IsUnopened functions state disk whole half_limit number given → AreStreamsUntouched input left held written
      → DoesOn functions state macros whole remaining contents input left held written disk back task status told
  does_not disk back given task status number is back_is unopened same =
      inr ((number, is, subst (IsUnopened functions state disk whole half_limit number) (sym back_is) unopened), same)

  -- what a session, and what a report, is over a disk
  pub does_run : (disk back : D) (task : Task) (status : Status) (wanted : SessionOptions) (ended : Ended) → task ≡ Run wanted
      → IsStatusAfter functions wanted ended status → IsToldOf ended told
      → IsSession functions wanted state disk macros (remaining input) (remaining left) (contents held) (contents written) ended back
      → DoesOn functions state macros whole remaining contents input left held written disk back task status told
  does_run disk back task status wanted ended is ends tells session =
      subst (λ (t : Task). DoesOn functions state macros whole remaining contents input left held written disk back t status told) (sym is)
      (inl (ended, ends, tells, session))

  -- what was asked for is a session
  pub does_asked : (disk back : D) (task : Task) (status : Status) (wanted : SessionOptions) → task ≡ Run wanted
      → DoesOn functions state macros whole remaining contents input left held written disk back (Run wanted) status told
      → DoesOn functions state macros whole remaining contents input left held written disk back task status told
  does_asked disk back task status wanted is does =
      subst (λ (t : Task). DoesOn functions state macros whole remaining contents input left held written disk back t status told) (sym is) does

  pub does_snapshot : (disk back : D) (task : Task) (status : Status) → task ≡ Snapshot
      → IsSnapshot functions state disk macros (contents held) (contents written) status back → left ≡ input
      → DoesOn functions state macros whole remaining contents input left held written disk back task status told
  does_snapshot disk back task status is done same =
      subst (λ (t : Task). DoesOn functions state macros whole remaining contents input left held written disk back t status told) (sym is)
      (inl (done, same))

  pub does_upgrade : (disk back : D) (task : Task) (status : Status) → task ≡ Upgrade
      → IsUpgrade functions state disk macros (contents held) (contents written) status back → left ≡ input
      → DoesOn functions state macros whole remaining contents input left held written disk back task status told
  does_upgrade disk back task status is done same =
      subst (λ (t : Task). DoesOn functions state macros whole remaining contents input left held written disk back t status told) (sym is)
      (inl (done, same))

  pub does_export : (disk back : D) (task : Task) (status : Status) (content : Content) → task ≡ Export content
      → IsExport functions state content disk macros (contents held) (contents written) status back (left_out_of told) → left ≡ input
      → DoesOn functions state macros whole remaining contents input left held written disk back task status told
  does_export disk back task status content is done same =
      subst (λ (t : Task). DoesOn functions state macros whole remaining contents input left held written disk back t status told) (sym is)
      (inl (done, same))

  pub does_tell : (disk back : D) (task : Task) (status : Status) (report : Report) → task ≡ Tell report
      → IsReport functions state report disk macros (contents held) (contents written) status back → left ≡ input
      → DoesOn functions state macros whole remaining contents input left held written disk back task status told
  does_tell disk back task status report is done same =
      subst (λ (t : Task). DoesOn functions state macros whole remaining contents input left held written disk back t status told) (sym is)
      (inl (done, same))

-- the same of what is equal
pub moved_performs : (functions : Functions) {I O : Type 0} (remaining : I → Option (List ℕ)) (contents : O → Option (List ℕ))
    (input v w : I) (held x y : O) (told : Remark) (e f : Text) (t u : Task) (s r : Status) → e ≡ f → t ≡ u → s ≡ r → v ≡ w → x ≡ y
    → Performs functions remaining contents input w held y f u r told → Performs functions remaining contents input v held x e t s told
moved_performs functions remaining contents input v w held x y told e f t u s r same_folder same_task same_status same_left same_written given =
    rw (same_folder, same_task, same_status, same_left, same_written) given

-- what is told of a session, or of what was left out, is told after it too
abbrev IsToldAfter : (told later : Remark) → Type 0
IsToldAfter told later = ((told ≡ Nothing) × (left_out_of later ≡ [])) ⊎ (later ≡ told)

pub kept_so : (ended : Ended) (told later : Remark) → IsToldAfter told later → IsToldOf ended told → IsToldOf ended later
kept_so ended told later (inr same) tells = subst (IsToldOf ended) (sym same) tells
kept_so End told later (inl none) tells = tt
kept_so (Unreadable number place) told later (inl none) (refusal, is, same_number, same_place) = absurd (cc)
kept_so (Unaccepted number place) told later (inl none) (refusal, is, same_number, same_place) = absurd (cc)
kept_so (Store number) told later (inl none) tells = tt

kept_out : (told later : Remark) → IsToldAfter told later → left_out_of told ≡ left_out_of later
kept_out told later (inl none) = ap left_out_of none.0 ∙ sym none.1
kept_out told later (inr same) = ap left_out_of (sym same)

pub told_so : (functions : Functions) {D R I O : Type 0} (state : D → State) (macros : R) (whole : Bool) (remaining : I → Option (List ℕ)) (contents : O → Option (List ℕ))
    (input left : I) (held written : O) (told later : Remark) (disk back : D) (task : Task) (status : Status) → IsToldAfter told later
    → DoesOn functions state macros whole remaining contents input left held written disk back task status told
    → DoesOn functions state macros whole remaining contents input left held written disk back task status later
told_so functions state macros whole remaining contents input left held written told later disk back (Run wanted) status kept (inl (ended, is, tells, session)) =
    inl (ended, is, kept_so ended told later kept tells, session)
told_so functions state macros whole remaining contents input left held written told later disk back Snapshot status kept (inl done) = inl done
told_so functions state macros whole remaining contents input left held written told later disk back Upgrade status kept (inl done) = inl done
told_so functions state macros whole remaining contents input left held written told later disk back (Export content) status kept (inl (export, same)) =
    inl (subst (IsExport functions state content disk macros (contents held) (contents written) status back) (kept_out told later kept) export, same)
told_so functions state macros whole remaining contents input left held written told later disk back (Tell report) status kept (inl done) = inl done
told_so functions state macros whole remaining contents input left held written told later disk back task status kept (inr not) = inr not
