-- From what the store promises of a session to what the program does.
use Rattle.std.proofs.Common.{◌≡◌, ℕ, suc, ◌+◌, ◌≤◌, Bool, true, List, [], ◌++◌, drop, Option, None, Some, Err, option_map, option_and_then, refl, sym, ap, subst, ◌∙◌, inl, inr, append-nil, arith}
use Rattle.disk_trait.specs.Disk.{State}
use Rattle.lisp_object.specs.declared.refusal.TheConstants.{DEVICE, DAMAGED, LOG_FULL, SNAPSHOT_TOO_LARGE, INPUT, OUTPUT, NO_MEMORY}
use Rattle.plist_state.specs.State.{WorldState, initial}
use Rattle.session_words.specs.declared.mode.Mode.{Mode}
use Rattle.prevalence_store.specs.declared.open_fault.OpenFault.{OpenFault}
use Rattle.prevalence_store.specs.declared.open_fault.OpenFault.TheVariants as opening
use Rattle.sessions.specs.declared.ending.Ending.TheVariants.{End, Reader, Store}
use Rattle.sessions.specs.declared.ending.Ended.{Ended}
use Rattle.sessions.specs.declared.ending.Ended.TheVariants as ways
use Rattle.sessions.specs.declared.ending.Ended.TheVariants.{Unaccepted, Unreadable}
use Rattle.sessions.specs.declared.ending.Place.{Place}
use Rattle.session_words.specs.declared.wanted.SessionOptions.{SessionOptions}
use Rattle.user_macros.specs.Functions.{Functions}
use Rattle.sessions.specs.Pace.{Pace}
use Rattle.prevalence_store.specs.calls.Open.{fault_number}
use Rattle.lisp_object.specs.Object.{Object}
use Rattle.lisp_operators.specs.Evaluation.{Evaluation}
use Rattle.lisp_reading.specs.Reading.{ReadingResult as Reading, empty, refused}
use Rattle.sessions.specs.FormAnswers.{Progress, after_forms, first_progress, form_progress, last_line, one_form, one_form_more, progress_onward, refusal_line}
use Rattle.sessions.specs.Serve.{IsFormUnaccepted, Serves, ServesInput, ServesWanted}
use Rattle.prevalence_store.specs.calls.Store.{StoreView}
use Rattle.prevalence_store.specs.meaning.Acceptance.{between, read_in}
use Rattle.store_commands.specs.Commands.{is_opening_fault}
use Rattle.store_commands.specs.Session.{AnswersInput, AnswersToRefusal, IsBrokenOff, LinesAreWritten, ReadsToEnd}
use Rattle.store_commands.specs.Status.{HasFaultNumber, IsFaultNumber, status_of_ended}
use Rattle.store_commands.specs.EndLines.{IsToldOf}
use Rattle.diagnostics.specs.declared.refusal.Refusal.{Refusal}
use Rattle.store_commands.specs.declared.told.Remark.{Remark}
use Rattle.store_commands.proofs.Statuses.{other_number}

module _ (functions : Functions) (mode : Mode) where
  same_progress : (n m : ℕ) (w : WorldState) (text : List ℕ) (p q : Progress) → n ≡ m → after_forms functions n w mode text ≡ Some p → after_forms functions m w mode text ≡ Some q → p ≡ q
  same_progress n m w text p q is here there = let same : after_forms functions n w mode text ≡ after_forms functions m w mode text = ap (λ k. after_forms functions k w mode text) is in cc

  -- all lines were written, and this part
  whole : (held : List ℕ) (written : Option (List ℕ)) (p q : Progress) (part last : List ℕ) → written ≡ Some (held ++ (p.lines ++ part)) → p ≡ q → part ≡ last
      → written ≡ Some (held ++ (q.lines ++ last))
  whole held written p q part last is same part_is = is ∙ ap (λ l. Some (held ++ l)) (ap (λ (r : Progress). r.lines ++ part) same ∙ ap (λ l. q.lines ++ l) part_is)

  -- nothing was read and nothing written
  pub nothing_written : (input held : List ℕ) (written : Option (List ℕ)) → written ≡ Some held → IsBrokenOff functions mode input held written
  nothing_written input held written is = record {
    world = initial;
    read = [];
    left = input;
    parts = refl;
    forms = 0;
    far = first_progress initial [];
    far_is = refl;
    front = [];
    unwritten = last_line (read_in functions initial mode []);
    lines = refl;
    all = is ∙ ap (λ l. Some l) (sym (append-nil held));
  }

  no_more : (lines part last : List ℕ) → part ≡ [] → lines ++ last ≡ (lines ++ part) ++ last
  no_more lines part last none = ap (λ l. l ++ last) (sym (append-nil lines)) ∙ ap (λ p. (lines ++ p) ++ last) (sym none)

  module _ {D R : Type 0} (state : D → State) (old new : StoreView D R) (w : WorldState) (had has held_now written : Option (List ℕ)) where
    -- at the end of the input
    done_input : {group : Bool} {pace : Pace} → ServesInput functions state group pace old new w mode had has held_now written End → (input held : List ℕ) → had ≡ Some input → held_now ≡ Some held
        → (served_all : LinesAreWritten functions mode w input held written []) × (read_in functions served_all.far.world mode served_all.far.rest ≡ empty)
    done_input served input held left holds =
        let s = served.serves in
        let read = served.reads input left in
        let text_is : served.text ≡ input = sym (read.1 ∙ ap (λ l. served.text ++ l) read.2.0 ∙ append-nil served.text) in (
          record {
            forms = s.forms;
            far = s.far;
            far_is = subst (λ t. after_forms functions s.forms w mode t ≡ Some s.far) text_is s.far_is;
            all = whole held written s.answered s.far s.part [] (s.output held holds) (same_progress s.lines s.forms w served.text s.answered s.far s.ends.all s.answered_is s.far_is) s.ends.no_part;
          },
          s.ends.nothing_left,
        )

    -- the progress that was answered is that of all forms
    answered_all : {group : Bool} (text : List ℕ) (number : ℕ) (served : Serves functions state old new w mode text held_now written group (Reader number)) → served.answered ≡ served.far
    answered_all text number served = same_progress served.lines served.forms w text served.answered served.far served.ends.all served.answered_is served.far_is

    answered_done : {group : Bool} (text : List ℕ) (served : Serves functions state old new w mode text held_now written group End) → served.answered ≡ served.far
    answered_done text served = same_progress served.lines served.forms w text served.answered served.far served.ends.all served.answered_is served.far_is

    refused_input : {group : Bool} {pace : Pace} (number : ℕ) → ServesInput functions state group pace old new w mode had has held_now written (Reader number) → (input held : List ℕ) → had ≡ Some input → held_now ≡ Some held
        → (lines : LinesAreWritten functions mode w input held written (refusal_line number)) × ((place : ℕ) × (read_in functions lines.far.world mode lines.far.rest ≡ refused number place))
    refused_input number served input held left holds =
        let s = served.serves in
        let read = served.reads input left in
        let lines = whole held written s.answered s.far s.part _ (s.output held holds) (answered_all served.text number s) s.ends.line in
        elim read.2.0 [
          | inl none ↦
              let text_is : served.text ≡ input = sym (read.1 ∙ ap (λ l. served.text ++ l) none ∙ append-nil served.text) in (
                record { forms = s.forms; far = s.far; far_is = subst (λ t. after_forms functions s.forms w mode t ≡ Some s.far) text_is s.far_is; all = lines },
                (s.ends.at, s.ends.reads),
              )
          | inr stays ↦
              let more = stays.1 read.0 in (
                record {
                  forms = s.forms;
                  far = record s.far { rest = s.far.rest ++ read.0 };
                  far_is = subst (λ t. after_forms functions s.forms w mode t ≡ Some (record s.far { rest = s.far.rest ++ read.0 })) (sym read.1) more.0;
                  all = lines;
                },
                (stays.0, more.1),
              )
        ]

    pub broken_input : {group : Bool} {pace : Pace} (number : ℕ) → ServesInput functions state group pace old new w mode had has held_now written (Store number) → (input held : List ℕ) → had ≡ Some input → held_now ≡ Some held
        → IsBrokenOff functions mode input held written
    broken_input number served input held left holds =
        let s = served.serves in
        let read = served.reads input left in
        let quiet : s.part ≡ [] → IsBrokenOff functions mode input held written = λ none. record {
          world = w;
          read = served.text;
          left = read.0;
          parts = read.1;
          forms = s.lines;
          far = s.answered;
          far_is = s.answered_is;
          front = s.answered.lines ++ s.part;
          unwritten = last_line (read_in functions s.answered.world mode s.answered.rest);
          lines = no_more s.answered.lines s.part (last_line (read_in functions s.answered.world mode s.answered.rest)) none;
          all = s.output held holds;
        } in
        elim s.ends [
          | inl stopped ↦ quiet stopped.no_part
          | inr else ↦ elim else [
            | inl renewing ↦ quiet renewing.no_part
            | inr else ↦ elim else [
              | inl full ↦ quiet full.no_part
              | inr else ↦ elim else [
                | inl large ↦ quiet large.no_part
                | inr else ↦ elim else [
                  | inl unread ↦ quiet unread.no_part
                  | inr else ↦ elim else [
                    | inl cut ↦
                        record {
                          world = w;
                          read = served.text;
                          left = read.0;
                          parts = read.1;
                          forms = s.forms;
                          far = s.far;
                          far_is = s.far_is;
                          front = s.answered.lines ++ s.part;
                          unwritten = cut.unwritten;
                          lines = cut.front;
                          all = s.output held holds;
                        }
                    | inr memory ↦ quiet memory.no_part
                  ]
                ]
              ]
            ]
          ]
        ]

    -- what a session wrote that answered all is a first part of the answers too
    broken_done : {group : Bool} {pace : Pace} → ServesInput functions state group pace old new w mode had has held_now written End → (input held : List ℕ) → had ≡ Some input → held_now ≡ Some held
        → IsBrokenOff functions mode input held written
    broken_done served input held left holds =
        let done = done_input served input held left holds in
        record {
          world = w;
          read = input;
          left = [];
          parts = sym (append-nil input);
          forms = done.0.forms;
          far = done.0.far;
          far_is = done.0.far_is;
          front = done.0.far.lines ++ [];
          unwritten = last_line (read_in functions done.0.far.world mode done.0.far.rest);
          lines = no_more done.0.far.lines [] (last_line (read_in functions done.0.far.world mode done.0.far.rest)) refl;
          all = done.0.all;
        }

    broken_refused : {group : Bool} {pace : Pace} (number : ℕ) → ServesInput functions state group pace old new w mode had has held_now written (Reader number) → (input held : List ℕ) → had ≡ Some input → held_now ≡ Some held
        → IsBrokenOff functions mode input held written
    broken_refused number served input held left holds =
        let answers = refused_input number served input held left holds in
        record {
          world = w;
          read = input;
          left = [];
          parts = sym (append-nil input);
          forms = answers.0.forms;
          far = answers.0.far;
          far_is = answers.0.far_is;
          front = answers.0.far.lines ++ refusal_line number;
          unwritten = [];
          lines = ap (λ (r : Reading). answers.0.far.lines ++ last_line r) answers.1.1 ∙ sym (append-nil (answers.0.far.lines ++ refusal_line number));
          all = answers.0.all;
        }

    pub ends_at_end : {group : Bool} {pace : Pace} → ServesInput functions state group pace old new w mode had has held_now written End → (input : List ℕ) → had ≡ Some input → has ≡ Some []
    ends_at_end served input left = let read = served.reads input left in read.2.1 ∙ ap (λ l. Some l) read.2.0

    between_numbers : (number given : ℕ) → number ≡ given → (DAMAGED ≤ given) × (given ≤ OUTPUT) → IsFaultNumber number
    between_numbers number given is within = subst IsFaultNumber (sym is) (inr (inl within))

    fault_of_input : {group : Bool} {pace : Pace} (code : ℕ) → ServesInput functions state group pace old new w mode had has held_now written (Store code) → IsFaultNumber code
    fault_of_input code served = elim served.serves.ends [
      | inl stopped ↦ inl stopped.device
      | inr else ↦ elim else [
        | inl renewing ↦ inl renewing.device
        | inr else ↦ elim else [
          | inl full ↦ between_numbers code _ full.full (omega arith, omega arith)
          | inr else ↦ elim else [
            | inl large ↦ between_numbers code _ large.large (omega arith, omega arith)
            | inr else ↦ elim else [
              | inl unread ↦ between_numbers code _ unread.input (omega arith, omega arith)
              | inr else ↦ elim else [
                | inl unwritten ↦ between_numbers code _ unwritten.output (omega arith, omega arith)
                | inr memory ↦ inr (inr memory.memory)
              ]
            ]
          ]
        ]
      ]
    ]

    -- no session ends with a number of an opening
    none_of_opening : {group : Bool} {pace : Pace} (number : ℕ) → ServesInput functions state group pace old new w mode had has held_now written (Store number) → is_opening_fault number ≡ true → ⊥
    none_of_opening number served of =
        elim served.serves.ends [
          | inl stopped ↦ other_number number DEVICE stopped.device refl of
          | inr else ↦ elim else [
            | inl renewing ↦ other_number number DEVICE renewing.device refl of
            | inr else ↦ elim else [
              | inl full ↦ other_number number LOG_FULL full.full refl of
              | inr else ↦ elim else [
                | inl large ↦ other_number number SNAPSHOT_TOO_LARGE large.large refl of
                | inr else ↦ elim else [
                  | inl unread ↦ other_number number INPUT unread.input refl of
                  | inr else ↦ elim else [
                    | inl cut ↦ other_number number OUTPUT cut.output refl of
                    | inr memory ↦ other_number number NO_MEMORY memory.memory refl of
                  ]
                ]
              ]
            ]
          ]
        ]

-- one refused form more has one line more
refused_line : (functions : Functions) (mode : Mode) (w : WorldState) (text : List ℕ) (forms accepted : ℕ) (far before : Progress) (number start : ℕ) → forms ≡ accepted + 1
    → after_forms functions forms w mode text ≡ Some far → after_forms functions accepted w mode text ≡ Some before → IsFormUnaccepted functions before.world mode before.rest number start
    → far.lines ≡ before.lines ++ refusal_line number
refused_line functions mode w text forms accepted far before number start one_more far_is before_is refuses =
    let reads : one_form functions before.world mode before.rest (read_in functions before.world mode before.rest)
    ≡ Some (form_progress before.world mode (between start refuses.stop before.rest) (drop refuses.next before.rest) (Err number)) =
    ap (one_form functions before.world mode before.rest) refuses.reads
    ∙ ap (λ (e : Evaluation Object). Some (form_progress before.world mode (between start refuses.stop before.rest) (drop refuses.next before.rest) e)) refuses.refused in
    let one : one_form_more functions mode before ≡ Some (progress_onward before (form_progress before.world mode (between start refuses.stop before.rest) (drop refuses.next before.rest) (Err number))) =
    ap (option_map (progress_onward before)) reads in
    let there : after_forms functions (suc accepted) w mode text ≡ Some (progress_onward before (form_progress before.world mode (between start refuses.stop before.rest) (drop refuses.next before.rest) (Err number))) =
    ap (option_and_then (one_form_more functions mode)) before_is ∙ one in
    let same : suc accepted ≡ forms = omega (arith, one_more) in
    let both : ◌≡◌ {A = Option Progress} (Some far) (Some (progress_onward before (form_progress before.world mode (between start refuses.stop before.rest) (drop refuses.next before.rest) (Err number)))) =
    sym far_is ∙ sym (ap (λ n. after_forms functions n w mode text) same) ∙ there in
    ap (λ (o : Option Progress). elim o [ None ↦ [] | Some p ↦ p.lines ]) both

module _ (functions : Functions) (wanted : SessionOptions) {D R : Type 0} (state : D → State) (old new : StoreView D R) (w : WorldState) (had has held_now written : Option (List ℕ)) where
  abbrev ServesSo : Ended → Type 0
  ServesSo = ServesWanted functions state wanted old new w had has held_now written

  unreadable_answers : (number : ℕ) (place : Place) → ServesSo (Unreadable number place) → (input held : List ℕ) → had ≡ Some input → held_now ≡ Some held
      → (refusal : Refusal) → refusal.number ≡ number → refusal.place ≡ place → AnswersToRefusal functions wanted w refusal input held written
  unreadable_answers number place served input held left holds refusal same_number same_place =
      let s = served.0.serves in
      let read = served.0.reads input left in
      let answers = refused_input functions wanted.mode state old new w had has held_now written number served.0 input held left holds in
      rw (same_number, same_place) (inl (
        answers.0,
        answers.1,
        record {
          read = served.0.text;
          left = read.0;
          parts = read.1;
          forms = s.forms;
          far = s.far;
          far_is = s.far_is;
          at = served.2.0;
          is_refused = served.2.1;
          is_place = served.2.2;
          accepted = λ strict. sym (ap (λ (p : Progress). p.refused) (answered_all functions wanted.mode state old new w had has held_now written served.0.text number s)) ∙ (served.1 strict).0;
        },
      ))

  stopped_answers : (number : ℕ) (place : Place) → ServesSo (Unaccepted number place) → (input held : List ℕ) → had ≡ Some input → held_now ≡ Some held
      → (refusal : Refusal) → refusal.number ≡ number → refusal.place ≡ place → AnswersToRefusal functions wanted w refusal input held written
  stopped_answers number place served input held left holds refusal same_number same_place =
      let s = served.2 in
      let read = served.3 input left in
      rw (same_number, same_place) (inr (
        record {
          read = served.1;
          left = read.0;
          parts = read.1;
          forms = s.accepted;
          far = s.before;
          far_is = s.before_is;
          at = s.start;
          is_refused = (served.0, s.refuses);
          is_place = s.is_place;
          accepted = λ strict. s.none_refused;
        },
        s.advances.lines held holds
            ∙ ap (λ l. Some (held ++ l)) (refused_line functions wanted.mode w served.1 s.forms s.accepted s.far s.before number s.start s.one_more s.advances.far_is s.before_is s.refuses),
      ))

  pub answers_input : (ended : Ended) (told : Remark) → IsToldOf ended told → ServesSo ended → (input held : List ℕ) → had ≡ Some input → held_now ≡ Some held
      → AnswersInput functions wanted (status_of_ended ended) told input held written
  unfolding done_input
  answers_input ways.End told none served input held left holds =
      let done = done_input functions wanted.mode state old new w had has held_now written served.0 input held left holds in
      (w, done.0, done.1, λ strict. sym (ap (λ (p : Progress). p.refused) (answered_done functions wanted.mode state old new w had has held_now written served.0.text served.0.serves)) ∙ (served.1 strict).0)
  answers_input (Unreadable number place) told (refusal, is, same_number, same_place) served input held left holds =
      (w, refusal, is, unreadable_answers number place served input held left holds refusal same_number same_place)
  answers_input (Unaccepted number place) told (refusal, is, same_number, same_place) served input held left holds =
      (w, refusal, is, stopped_answers number place served input held left holds refusal same_number same_place)
  answers_input (ways.Store number) told none served input held left holds = tt

  -- ---- what holds at a fault

  pub broken_at : (ended : Ended) (number : ℕ) → ended ≡ ways.Store number → ServesSo ended → (input held : List ℕ) → had ≡ Some input → held_now ≡ Some held
      → IsBrokenOff functions wanted.mode input held written
  broken_at ended number is served =
      broken_input functions wanted.mode state old new w had has held_now written number (subst ServesSo is served).0

  -- and so it is of each session, however it ended
  pub broken_anyhow : (ended : Ended) → ServesSo ended → (input held : List ℕ) → had ≡ Some input → held_now ≡ Some held → IsBrokenOff functions wanted.mode input held written
  broken_anyhow ways.End served input held left holds = broken_done functions wanted.mode state old new w had has held_now written served.0 input held left holds
  broken_anyhow (Unreadable number place) served input held left holds =
      broken_refused functions wanted.mode state old new w had has held_now written number served.0 input held left holds
  broken_anyhow (Unaccepted number place) served input held left holds =
      let s = served.2 in
      let read = served.3 input left in
      record {
        world = w;
        read = served.1;
        left = read.0;
        parts = read.1;
        forms = s.forms;
        far = s.far;
        far_is = s.advances.far_is;
        front = s.far.lines;
        unwritten = last_line (read_in functions s.far.world wanted.mode s.far.rest);
        lines = refl;
        all = s.advances.lines held holds;
      }
  broken_anyhow (ways.Store number) served input held left holds = broken_at (ways.Store number) number refl served input held left holds

  pub reads_to_end : (ended : Ended) → ServesSo ended → (input : List ℕ) → had ≡ Some input → ReadsToEnd (status_of_ended ended) has
  reads_to_end ways.End served input left = ends_at_end functions wanted.mode state old new w had has held_now written served.0 input left
  reads_to_end (Unreadable number place) served input left = tt
  reads_to_end (Unaccepted number place) served input left = tt
  reads_to_end (ways.Store number) served input left = tt

  pub fault_of_session : (ended : Ended) → ServesSo ended → HasFaultNumber (status_of_ended ended)
  fault_of_session ways.End served = λ number is. absurd (cc)
  fault_of_session (Unreadable code place) served = λ number is. absurd (cc)
  fault_of_session (Unaccepted code place) served = λ number is. absurd (cc)
  fault_of_session (ways.Store code) served = λ number is.
      let same : code ≡ number = cc in subst IsFaultNumber same (fault_of_input functions wanted.mode state old new w had has held_now written code served.0)

  pub no_opening_at : (ended : Ended) (number : ℕ) → ended ≡ ways.Store number → ServesSo ended → is_opening_fault number ≡ true → ⊥
  no_opening_at ended number is served =
      none_of_opening functions wanted.mode state old new w had has held_now written number (subst ServesSo is served).0

fault_is : (fault : OpenFault) → IsFaultNumber (fault_number fault)
fault_is opening.OutOfMemory = inr (inr refl)
fault_is opening.DeviceFault = inl refl
fault_is opening.Damaged = inr (inl (omega arith, omega arith))
fault_is opening.UnknownVersion = inr (inl (omega arith, omega arith))
fault_is opening.DoesNotMix = inr (inl (omega arith, omega arith))
fault_is opening.TooLarge = inr (inl (omega arith, omega arith))
fault_is opening.NotWhole = inr (inl (omega arith, omega arith))
fault_is opening.UnknownFunction = inr (inl (omega arith, omega arith))

pub number_of_opening : (number : ℕ) (fault : OpenFault) → number ≡ fault_number fault → IsFaultNumber number
number_of_opening number fault is = subst IsFaultNumber (sym is) (fault_is fault)
