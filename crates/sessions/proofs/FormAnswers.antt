-- What the answer to a form is to a session.
use Rattle.std.proofs.Common.{◌≡◌, ◌≢◌, ◌∷◌, ℕ, Bool, true, false, List, [], ◌++◌, length, drop, Option, Some, IsSome, is_some, Result, Ok, Err, refl, sym, ap, subst, ◌∙◌, inl, inr, append_assoc, arith}
use Rattle.disk_trait.specs.Disk.{State, IsHonest, IsSoundDisk}
use Rattle.gate_log.specs.Layout.{LogRecord}
use Rattle.lisp_object.specs.Object.{Object}
use Rattle.lisp_object.specs.Datum.{object_of}
use Rattle.lisp_object.specs.declared.refusal.TheConstants.{INPUT, LOG_FULL, OUTPUT, NO_MEMORY}
use Rattle.form_eval.specs.Acceptance.{accept}
use Rattle.form_eval.specs.Laws.{MayEvaluate}
use Rattle.form_eval.specs.declared.read_form.ReadForm.{ReadForm}
use Rattle.lisp_operators.specs.Evaluation.{Done, Evaluation}
use Rattle.lisp_operators.specs.EvaluationAnswers.{done as done_of}
use Rattle.lisp_operators.specs.declared.evaluated.Evaluated.{Evaluated}
use Rattle.canon_printer.specs.Printed.{printed}
use Rattle.lisp_reading.specs.Reading.{form}
use Rattle.plist_state.specs.State.{WorldState}
use Rattle.sessions.specs.steps.Forms.{Failure, Refused, Full, DeviceFault, OutOfMemory, is_device, of_unlogged, TakesForm}
use Rattle.prevalence_store.specs.declared.failure.Unlogged.{Unlogged}
use Rattle.prevalence_store.specs.declared.failure.Unlogged.TheVariants as unlogged
use Rattle.sessions.specs.declared.answer.Answered.{Answered}
use Rattle.session_words.specs.declared.mode.Mode.{Mode}
use Rattle.sessions.specs.declared.ending.Ending.TheVariants.{Store}
use Rattle.prevalence_store.specs.meaning.Acceptance.{after, between, accepted_record, read_in, records_of, transaction_value}
use Rattle.prevalence_store.specs.steps.Failure.{failure_number}
use Rattle.prevalence_store.specs.calls.Execute.{Stores, SurvivesAs}
use Rattle.sessions.specs.FormAnswers.{Progress, after_forms, first_progress, form_progress, last_line, one_form, refusal_line, value_line}
use Rattle.sessions.specs.Pace.{fill_of}
use Rattle.sessions.specs.Serve.{Ends, IsAfter, IsOver}
use Rattle.prevalence_store.specs.calls.Store.{StoreView}
use Rattle.prevalence_store.proofs.steps.Committing.{accepts-logged}
use Rattle.prevalence_store.proofs.calls.Executing.{own_whole}
use Rattle.prevalence_store.proofs.calls.Running.{stores_left}
use Rattle.prevalence_store.proofs.meaning.Replaying.{stepped}
use Rattle.prevalence_store.proofs.meaning.Transactions.{refused_alike}
use Rattle.sessions.specs.Streams.{Writes, WritesPart}
use Rattle.sessions.specs.steps.Answer.{EndsTry, IsFormLeft, LeavesRecord, LogsAtOnce, MayBeHeard, StopsInForm, TriesForm, answered_of}
use Rattle.sessions.specs.steps.Output.{IsAnswerLine}
use Rattle.prevalence_store.proofs.Surviving.{all_or_none_of_one, fewer_survive, unchanged_survives}
use Rattle.user_macros.specs.Functions.{Functions}
use Rattle.sessions.proofs.Endings.{writes_nothing, part_of, after_one_form, after_none, nothing}

-- if something comes first or last, there is something
pub some_first : (xs ys : List ℕ) → xs ≢ [] → xs ++ ys ≢ []
some_first [] ys some is = absurd (some refl)
some_first (x ∷ xs) ys some is = absurd (cc)

pub some_last : (xs : List ℕ) (y : ℕ) → xs ++ y ∷ [] ≢ []
some_last [] y is = absurd (cc)
some_last (x ∷ xs) y is = absurd (cc)

some_line : (lines line : List ℕ) → line ≡ lines → lines ≢ [] → line ≢ []
some_line lines line same some is = some (sym same ∙ is)

module _ (functions : Functions) where
  value_lines : {D R : Type 0} (new : StoreView D R) (e : Evaluated) (line : List ℕ) (given : WorldState) → new.world ≡ Some given → IsAnswerLine new (Ok e) line → line ≡ value_line given (object_of e.value)
  value_lines new e line given left is = is.line_of ∙ ap (λ u. value_line u (object_of e.value)) (sym (is.one given left))

  module _ {D R : Type 0} (state : D → State) (sound : (d : D) → IsHonest (state d) → IsSoundDisk (state d)) (old new : StoreView D R) (w : WorldState) (mode : Mode) (text : List ℕ) (held written : Option (List ℕ))
      (known : old.world ≡ Some w) (start stop next : ℕ) (x : Object) (is : read_in functions w mode text ≡ form x start stop next) (own : List ℕ) (own_is : own ≡ between start stop text) where
    one_read : (given : Evaluation Object) → transaction_value functions.names w x ≡ given
        → one_form functions w mode text (read_in functions w mode text) ≡ Some (form_progress w mode own (drop next text) given)
    one_read given valued = ap (one_form functions w mode text) is
        ∙ (λ i. Some (form_progress w mode (sym own_is i) (drop next text) (valued i)))

    one_is : (given : Evaluation Object) → transaction_value functions.names w x ≡ given → after_forms functions 1 w mode text ≡ Some (form_progress w mode own (drop next text) given)
    one_is given valued = after_one_form functions w mode text _ (one_read given valued)

    -- its record makes the world that it left
    record_makes : (d : Done Object) → transaction_value functions.names w x ≡ Ok d → after functions w (accepted_record mode own ∷ []) ≡ Some d.state
    record_makes d valued =
        let whole : read_in functions w mode own ≡ form x 0 (length own) (length own) =
        subst (λ t. read_in functions w mode t ≡ form x 0 (length t) (length t)) (sym own_is) (own_whole functions w mode text x start stop next is) in
        ap (stepped functions []) (accepts-logged functions w mode own x d whole valued)

    after_stores : (e : Evaluated) (given : WorldState) → transaction_value functions.names w x ≡ Ok (done_of e given) → Stores state old new e.wrote mode own given
        → IsAfter functions state old new w (form_progress w mode own (drop next text) (Ok (done_of e given)))
    after_stores e given valued stores = by_wrote e.wrote stores where
      by_wrote : (wrote : Bool) → Stores state old new wrote mode own given
          → IsAfter functions state old new w (record { world = given; rest = drop next text; taken = records_of wrote mode own; lines = value_line given (object_of e.value); refused = [] })
      by_wrote true logs = record {
        left = logs.left;
        records = record_makes (done_of e given) valued;
        limit = logs.limit;
        macros = logs.macros;
        failures = logs.failures;
        mixes = logs.mixes;
        log = inl (record {
          half = logs.half;
          version = logs.version;
          generation = logs.generation;
          record_count = logs.record_count;
          size = let size = logs.size in omega arith;
          first_size = logs.first_size;
          fits = let fits = logs.fits in omega arith;
          described = logs.described;
          other = logs.other;
          untouched = λ none. absurd (cc);
        });
      }
      by_wrote false same =
          let left : Some w ≡ Some given = sym known ∙ sym (ap (λ (s : StoreView D R). s.world) same.0) ∙ same.1 in
          let here : w ≡ given = cc in
          subst (λ v. IsAfter functions state old new w (record { world = v; rest = drop next text; taken = []; lines = value_line given (object_of e.value); refused = [] })) here
          (after_none functions state sound old new w mode text held written known (drop next text) (value_line given (object_of e.value)) [] same.0)

    -- what it leaves in the half in use
    leaves : (wrote : Bool) (given : WorldState) → Stores state old new wrote mode own given
        → LeavesRecord (LogsAtOnce old.limit (fill_of state old) (fill_of state new)) (records_of wrote mode own) (fill_of state old) (fill_of state new) wrote
    leaves true given logs =
        let size = logs.size in
        let fits = logs.fits in
        inr (refl, (accepted_record mode own, refl, (omega arith, λ i. record { mixes = logs.mixes i; version = logs.version i; generation = logs.generation i; record_count = logs.record_count i; size = logs.size i; first_size = logs.first_size i })))
    leaves false given same = inl (refl, refl, ap (λ (s : StoreView D R). fill_of state s) same.0)

    refused_leaves : new ≡ old → LeavesRecord (LogsAtOnce old.limit (fill_of state old) (fill_of state new)) [] (fill_of state old) (fill_of state new) false
    refused_leaves same = inl (refl, refl, ap (λ (s : StoreView D R). fill_of state s) same)

    -- the form is answered, and the session goes on
    form_is_answered : (answer : Result Evaluated Failure) (line : List ℕ) → TakesForm functions state old new mode own x answer → IsAnswerLine new answer line
        → Writes held written line → TriesForm functions state old new w mode text held written (Ok (answered_of answer))
    form_is_answered (Ok e) line of is_line writes =
        let given = of.accepted w known in (
          form_progress w mode own (drop next text) (Ok (done_of e given.0)),
          record {
            far_is = one_is (Ok (done_of e given.0)) given.1;
            lines = subst (λ l. Writes held written l) (value_lines new e line given.0 (stores_left state old new e.wrote mode own given.0 given.2) is_line) writes;
            after = after_stores e given.0 given.1 given.2;
            survives = of.survives w;
          },
          leaves e.wrote given.0 given.2,
          refl,
        )
    form_is_answered (Err (Refused number)) line of is_line writes =
        let same = of.unchanged refl in (
          form_progress w mode own (drop next text) (Err number),
          record {
            far_is = one_is (Err number) (of.cause w known);
            lines = subst (λ l. Writes held written l) is_line.line_of writes;
            after = after_none functions state sound old new w mode text held written known (drop next text) (refusal_line number) (number ∷ []) same;
            survives = unchanged_survives functions state sound old new w same;
          },
          refused_leaves same,
          (refl, (start, record { object = x; stop = stop; next = next; reads = is; refused = of.cause w known })),
        )
    form_is_answered (Err Full) line of is_line writes = absurd is_line.line_of
    form_is_answered (Err DeviceFault) line of is_line writes = absurd is_line.line_of
    form_is_answered (Err OutOfMemory) line of is_line writes = absurd is_line.line_of

    pub form_answered : (answer : Result Evaluated Failure) (line : List ℕ) → TakesForm functions state old new mode own x answer → IsAnswerLine new answer line
        → Writes held written line → (told : Answered) → told ≡ answered_of answer → TriesForm functions state old new w mode text held written (Ok told)
    form_answered answer line of is_line writes told same =
        subst (λ t. TriesForm functions state old new w mode text held written (Ok t)) (sym same) (form_is_answered answer line of is_line writes)

    -- one form was taken, and not answered whole
    unfoldable taken_only : (far : Progress) (part : List ℕ) (number : ℕ) → number ≢ INPUT → (n : ℕ) → after_forms functions 1 w mode text ≡ Some far → Writes held written part
        → SurvivesAs functions state old new w far.taken n → Ends functions state old new w mode text held written 1 far 0 (first_progress w text) part false (Store number)
        → StopsInForm functions state old new w mode text held written number
    taken_only far part number no_input n one writes survives ends = record {
      serves = record {
        forms = 1;
        far = far;
        far_is = one;
        lines = 0;
        answered = first_progress w text;
        answered_is = refl;
        at_most = omega arith;
        in_turn = λ none. omega arith;
        part = part;
        output = writes;
        survives = λ here claims keeps. fewer_survive functions (state old.disk) (state new.disk) w far.taken n 0 new.world (survives here claims keeps) (omega arith);
        ends = ends;
      };
      one = omega arith;
      no_input = no_input;
      in_form = λ output. refl;
      accepted = refl;
    }

    -- the session has ended in the form, and this is left of it
    abbrev Stops : ℕ → Type 0
    Stops number = (stops : StopsInForm functions state old new w mode text held written number) × EndsTry functions state old new w mode text held written number stops

    -- the writer failed in its line
    unwritten_front : (lines line : List ℕ) (front rest more : List ℕ) → line ≡ lines → line ≡ front ++ rest → lines ++ more ≡ front ++ (rest ++ more)
    unwritten_front lines line front rest more same parts = ap (λ t. t ++ more) (sym same ∙ parts) ∙ append_assoc front rest more

    line_unwritten : (answer : Result Evaluated Failure) (line : List ℕ) → TakesForm functions state old new mode own x answer → IsAnswerLine new answer line
        → WritesPart held written line → Stops OUTPUT
    unfolding taken_only
    line_unwritten (Ok e) line of is_line writes =
        let given = of.accepted w known in
        let same_line = value_lines new e line given.0 (stores_left state old new e.wrote mode own given.0 given.2) is_line in
        let part = part_of held written line (some_line (value_line given.0 (object_of e.value)) line same_line (some_last (printed given.0.packages given.0.current_package (object_of e.value)) 10)) writes in
        let far : Progress = form_progress w mode own (drop next text) (Ok (done_of e given.0)) in (
          taken_only far part.0 OUTPUT (λ input. absurd (omega (arith, input))) (length (records_of e.wrote mode own)) (one_is (Ok (done_of e given.0)) given.1) part.4 (of.survives w)
              (inr (inr (inr (inr (inr (inl (record {
                output = refl;
                unwritten = part.1 ++ last_line (read_in functions far.world mode far.rest);
                some_left = some_first part.1 (last_line (read_in functions far.world mode far.rest)) part.3;
                front = unwritten_front far.lines line part.0 part.1 (last_line (read_in functions far.world mode far.rest)) same_line part.2;
                in_form = λ some. (far, one_is (Ok (done_of e given.0)) given.1, (part.1, part.3, sym same_line ∙ part.2));
                after = after_stores e given.0 given.1 given.2;
              }))))))),
          inr (inl (refl, refl, (e.wrote, leaves e.wrote given.0 given.2))),
        )
    line_unwritten (Err (Refused number)) line of is_line writes =
        let same = of.unchanged refl in
        let part = part_of held written line (some_line (refusal_line number) line is_line.line_of (λ none. absurd (cc))) writes in
        let far : Progress = form_progress w mode own (drop next text) (Err number) in (
          taken_only far part.0 OUTPUT (λ input. absurd (omega (arith, input))) 0 (one_is (Err number) (of.cause w known)) part.4 (unchanged_survives functions state sound old new w same)
              (inr (inr (inr (inr (inr (inl (record {
                output = refl;
                unwritten = part.1 ++ last_line (read_in functions far.world mode far.rest);
                some_left = some_first part.1 (last_line (read_in functions far.world mode far.rest)) part.3;
                front = unwritten_front far.lines line part.0 part.1 (last_line (read_in functions far.world mode far.rest)) is_line.line_of part.2;
                in_form = λ some. (far, one_is (Err number) (of.cause w known), (part.1, part.3, sym is_line.line_of ∙ part.2));
                after = after_none functions state sound old new w mode text held written known (drop next text) (refusal_line number) (number ∷ []) same;
              }))))))),
          inr (inl (refl, refl, (false, refused_leaves same))),
        )
    line_unwritten (Err Full) line of is_line writes = absurd is_line.line_of
    line_unwritten (Err DeviceFault) line of is_line writes = absurd is_line.line_of
    line_unwritten (Err OutOfMemory) line of is_line writes = absurd is_line.line_of

    -- there is no line
    out_of_memory : (number : ℕ) → number ≡ NO_MEMORY → new ≡ old → written ≡ held → Stops number
    unfolding nothing
    out_of_memory number memory same quiet = (
      record {
        serves = nothing functions state sound old new w mode text held written known false (Store number) [] same (writes_nothing held written quiet)
            (inr (inr (inr (inr (inr (inr (record { memory = memory; all = omega arith; no_part = refl; after = after_none functions state sound old new w mode text held written known text [] [] same })))))));
        one = omega arith;
        no_input = λ input. absurd (omega (arith, memory, input));
        in_form = λ output. absurd (omega arith);
        accepted = refl;
      },
      inl (memory, refl, ap (λ (s : StoreView D R). fill_of state s) same),
    )

    records_written : (wrote : Bool) → wrote ≡ true → records_of wrote mode own ≡ accepted_record mode own ∷ []
    records_written wrote wrote_is = ap (λ b. records_of b mode own) wrote_is

    stops_in : (cause : Unlogged) (number : ℕ) → IsFormLeft functions state old new mode own x cause → number ≡ failure_number cause → number ≢ LOG_FULL → written ≡ held
        → Stops number
    unfolding taken_only
    stops_in unlogged.OutOfMemory number of stop other quiet = out_of_memory number stop (of.unchanged refl) quiet
    stops_in unlogged.Full number of stop other quiet = absurd (other stop)
    stops_in unlogged.DeviceFault number of stop other quiet =
        let why = of.cause w known in
        let failed = of.fault refl in
        let taken = records_written why.0.0.wrote why.0.2 in (
          taken_only (form_progress w mode own (drop next text) (Ok why.0.0)) [] number (λ input. absurd (omega (arith, stop, input))) 0 (one_is (Ok why.0.0) why.0.1) (writes_nothing held written quiet)
              (subst (λ (es : List LogRecord). SurvivesAs functions state old new w es 0) (sym taken) (of.survives w))
              (inl (record {
                device = stop;
                some_open = omega arith;
                no_part = refl;
                mid = old;
                before = after_none functions state sound old old w mode text held held known text [] [] refl;
                entries = accepted_record mode own ∷ [];
                some = omega arith;
                one_open = λ none. (refl, refl);
                were_accepted = taken;
                fits = let fits = why.1 in omega arith;
                failed = failed;
                all_or_none = λ here claims keeps.
                    all_or_none_of_one functions (state old.disk) (state new.disk) w (accepted_record mode own)
                    (of.survives w here claims keeps).any_moment;
              })),
          inr (inr (stop, refl, refl, λ i. record { mixes = failed.mixes i; version = failed.version i; generation = failed.generation i; record_count = failed.record_count i; size = failed.size i; first_size = failed.first_size i })),
        )

    over_in : (cause : Unlogged) (number : ℕ) → IsFormLeft functions state old new mode own x cause → number ≡ failure_number cause → number ≡ LOG_FULL → IsOver functions state old w mode text
    over_in unlogged.OutOfMemory number of stop full = absurd (omega arith)
    over_in unlogged.DeviceFault number of stop full = absurd (omega arith)
    over_in unlogged.Full number of stop full =
        let why = of.cause w known in
        record {
          next = form_progress w mode own (drop next text) (Ok why.0.0);
          next_is = one_read (Ok why.0.0) why.0.1;
          record_ = accepted_record mode own;
          is_taken = records_written why.0.0.wrote why.0.2;
          over = why.1;
        }

    -- there is no line: the form has no room, or it has ended the session
    pub form_stops : (cause : Unlogged) (number : ℕ) → IsFormLeft functions state old new mode own x cause → number ≡ failure_number cause → written ≡ held
        → TriesForm functions state old new w mode text held written (Err number)
    form_stops cause number left stop quiet = (over_in cause number left stop, λ other. stops_in cause number left stop other quiet)

    -- the writer failed
    pub form_unwritten : (answer : Result Evaluated Failure) (line : List ℕ) → TakesForm functions state old new mode own x answer → IsAnswerLine new answer line
        → WritesPart held written line → TriesForm functions state old new w mode text held written (Err OUTPUT)
    form_unwritten answer line of is_line writes = (λ full. absurd (omega arith), λ other. line_unwritten answer line of is_line writes)

  -- with the number 64 nothing was done
  pub full_unchanged : {D R : Type 0} (old new : StoreView D R) (cause : Unlogged) (number : ℕ) → (is_device (of_unlogged cause) ≡ false → new ≡ old) → number ≡ failure_number cause
      → number ≡ LOG_FULL → new ≡ old
  full_unchanged old new unlogged.OutOfMemory number same stop full = same refl
  full_unchanged old new unlogged.DeviceFault number same stop full = absurd (omega arith)
  full_unchanged old new unlogged.Full number same stop full = same refl

  -- a store whose form has a line has a world
  pub line_known : {D R : Type 0} (state : D → State) (old new : StoreView D R) (w : WorldState) (mode : Mode) (own : List ℕ) (x : Object) (answer : Result Evaluated Failure) (line : List ℕ)
      → TakesForm functions state old new mode own x answer → IsAnswerLine new answer line → old.world ≡ Some w → IsSome new.world
  line_known state old new w mode own x (Ok e) line of is_line known =
      let given = of.accepted w known in ap is_some (stores_left state old new e.wrote mode own given.0 given.2)
  line_known {D} {R} state old new w mode own x (Err (Refused number)) line of is_line known = ap (λ (s : StoreView D R). is_some s.world) (of.unchanged refl) ∙ ap is_some known
  line_known state old new w mode own x (Err Full) line of is_line known = absurd is_line.line_of
  line_known state old new w mode own x (Err DeviceFault) line of is_line known = absurd is_line.line_of
  line_known state old new w mode own x (Err OutOfMemory) line of is_line known = absurd is_line.line_of

  -- of a form that was refused its recipient may hear, in the store as it is then
  pub form_heard : {D R : Type 0} (state : D → State) (old new : StoreView D R) (w : WorldState) (mode : Mode) (own : List ℕ) (read : ReadForm) (answer : Result Evaluated Failure)
      → TakesForm functions state old new mode own (object_of read.datum) answer → old.world ≡ Some w → MayEvaluate w.packages read → MayBeHeard functions new.world (answered_of answer) read
  form_heard {D} {R} state old new w mode own read (Err (Refused number)) of known may = λ v left.
      let there : Some w ≡ Some v = sym known ∙ sym (ap (λ (s : StoreView D R). s.world) (of.unchanged refl)) ∙ left in
      let one : w ≡ v = cc in
      subst (λ (u : WorldState). MayEvaluate u.packages read × (accept functions.names u (object_of read.datum) ≡ Err number)) one
      (may, refused_alike functions.names w (object_of read.datum) number (of.cause w known))
  form_heard state old new w mode own read (Ok e) of known may = tt
  form_heard state old new w mode own read (Err Full) of known may = tt
  form_heard state old new w mode own read (Err DeviceFault) of known may = tt
  form_heard state old new w mode own read (Err OutOfMemory) of known may = tt
