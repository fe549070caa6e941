-- Forms that are answered from their text.
--     found_read      where such a form is among the bytes that are pending and the piece
--     found_line      its line, of what the store found
--     stands_there      the form, as one that the bytes begin with
--     found_answered, found_unwritten      what its line comes to
--     found_passed, found_stops      that it was passed, or that the session has ended in it
use Rattle.std.proofs.Common.{◌≡◌, ◌≤◌, ℕ, ◌+◌, ◌-◌, true, false, List, [], ◌++◌, length, drop, take, Option, Some, None, Ok, Err, codes, append_assoc, refl, sym, ap, subst, ◌∙◌, inl, inr, arith, length-append, append-nil}
use Rattle.std.specs.Borrow.{Bor}
use Rattle.std.specs.Option.{option_map}
use Rattle.std.proofs.lemmas.List.{length-take-le}
use Rattle.disk_trait.specs.Disk.{State, IsHonest, IsSoundDisk}
use Rattle.gate_log.specs.Layout.{LogRecord}
use Rattle.lisp_object.specs.Datum.{object_of}
use Rattle.lisp_object.specs.declared.datum.Datum
use Rattle.lisp_object.specs.declared.datum.Datum.{Datum}
use Rattle.lisp_object.specs.declared.refusal.TheConstants.{OUTPUT}
use Rattle.lisp_object.specs.Object.{Object}
use Rattle.lisp_object.proofs.Objects.{object_of-Symbol}
use Rattle.lisp_operators.specs.Evaluation.{gives}
use Rattle.lisp_operators.specs.EvaluationAnswers.{or_nil}
use Rattle.form_reader.specs.Reader.{begun, further}
use Rattle.lisp_reading.specs.Reading.{form, reads}
use Rattle.plist_state.specs.State.{WorldState}
use Rattle.session_words.specs.declared.mode.Mode.{Mode}
use Rattle.session_words.specs.declared.wanted.SessionOptions.{SessionOptions}
use Rattle.user_macros.specs.Functions.{Functions}
use Rattle.prevalence_store.specs.calls.Store.{StoreView}
use Rattle.prevalence_store.specs.meaning.Acceptance.{between, read_in, setting_in, transaction_value}
use Rattle.prevalence_store.specs.steps.Named.{BeginsWithGet}
use Rattle.prevalence_store.proofs.Surviving.{unchanged_survives}
use Rattle.sessions.specs.declared.answer.Answered.TheVariants.{Accepted}
use Rattle.sessions.specs.declared.ending.Ended.TheVariants as ways
use Rattle.sessions.specs.declared.input.Pending.{Pending}
use Rattle.sessions.specs.declared.input.property_line.FoundLine.{FoundLine}
use Rattle.sessions.specs.FormAnswers.{value_line}
use Rattle.sessions.specs.Pace.{Fill, fill_of}
use Rattle.sessions.specs.Streams.{Writes, WritesPart}
use Rattle.sessions.specs.steps.Answer.{LeavesRecord, PassesForm, TriesForm}
use Rattle.sessions.specs.steps.Course.{Course, pass}
use Rattle.sessions.specs.steps.Forms.{TakesForm}
use Rattle.sessions.specs.steps.PropertyLine.{HasLine}
use Rattle.sessions.specs.steps.Input.{HasForm, IsPending}
use Rattle.sessions.specs.steps.Output.{IsAnswerLine}
use Rattle.sessions.specs.steps.Serve.{HasEndedAt}
use Rattle.sessions.proofs.EndedAt.{ends_at_once, passes_form}
use Rattle.sessions.proofs.FormAnswers.{form_answered, form_unwritten}
use Rattle.sessions.proofs.Pacing.{none_paced}
use Rattle.sessions.proofs.Pendings.{kept_count}
use Rattle.sessions.proofs.Pieces.{text_stays}
use Rattle.sessions.proofs.Renewing.{stops_at_once}

-- ---- what was found

-- the value that was found, as a datum
abbrev datum_of : Option (Bor Datum) → Datum
datum_of (Some d) = d.now
datum_of None = Datum.Symbol (codes "COMMON-LISP") (codes "NIL")

datum_is : (found : Option (Bor Datum)) → object_of (datum_of found) ≡ or_nil (option_map (λ d. object_of d.now) found)
datum_is (Some d) = refl
datum_is None = object_of-Symbol (codes "COMMON-LISP") (codes "NIL")

-- it begins where the piece does, as nothing is open
found_read : (functions : Functions) (w : WorldState) (mode : Mode) (old : Pending) (bytes front more : List ℕ) (x : Object) (start stop : ℕ) → IsPending functions w mode old bytes → old.text.items ≡ []
    → read_in functions w mode (front ++ more) ≡ form x start stop stop
    → read_in functions w mode ((bytes ++ front) ++ more) ≡ form x (old.dropped + start) (old.dropped + stop) (old.dropped + stop)
found_read functions w mode old bytes front more x start stop pending nothing is =
    let setting = setting_in functions w mode in
    let dropped : drop (begun old.reader) bytes ≡ [] = ap (λ n. drop n bytes) (sym pending.only) ∙ sym pending.kept ∙ nothing in
    let from : begun old.reader + start ≡ old.dropped + start = let same = pending.only in omega arith in
    let to : begun old.reader + stop ≡ old.dropped + stop = let same = pending.only in omega arith in
    ap (reads setting) (append_assoc bytes front more)
    ∙ pending.has_begun.begins.alone (front ++ more)
    ∙ ap (λ cs. further (begun old.reader) (reads setting (cs ++ (front ++ more)))) dropped
    ∙ ap (further (begun old.reader)) is
    ∙ (λ i. form x (from i) (to i) (to i))

pub found_line : (functions : Functions) (w : WorldState) (mode : Mode) (old : Pending) (bytes piece : List ℕ) (found : Option (Bor Datum)) (start stop : ℕ) (line : FoundLine) → IsPending functions w mode old bytes
    → old.text.items ≡ [] → BeginsWithGet functions w mode (take stop piece) (or_nil (option_map (λ d. object_of d.now) found)) start stop → stop ≤ length piece
    → line.count ≡ stop → line.next ≡ old.dropped + stop → line.line.items ≡ value_line w (or_nil (option_map (λ d. object_of d.now) found))
    → HasLine functions w mode bytes piece line
found_line functions w mode old bytes piece found start stop line pending nothing begins within count_is next_is line_is =
    let same = datum_is found in record {
      object = begins.object;
      start = old.dropped + start;
      reads = λ more.
          ap (λ n. read_in functions w mode ((bytes ++ take n piece) ++ more)) count_is
          ∙ found_read functions w mode old bytes (take stop piece) more begins.object start stop pending nothing (begins.reads more)
          ∙ (λ i. form begins.object (old.dropped + start) (sym next_is i) (sym next_is i));
      next_is =
          let many : length (bytes ++ take line.count piece) ≡ length bytes + length (take line.count piece) = length-append bytes (take line.count piece) in
          let taken : length (take line.count piece) ≡ line.count = length-take-le line.count piece (omega (arith, count_is, within)) in
          let all : old.dropped + length old.text.items ≡ length bytes = kept_count functions w mode old bytes pending in
          let none : length old.text.items ≡ 0 = ap length nothing in
          omega (arith, many, taken, all, none, next_is, count_is);
      value = datum_of found;
      valued = begins.valued ∙ ap (λ x. gives x w) (sym same);
      line_is = line_is ∙ ap (value_line w) (sym same);
    }

-- ---- what its line comes to

taken_none : (Logged : LogRecord → Type 0) (taken : List LogRecord) (fill : Fill) → LeavesRecord Logged taken fill fill false → taken ≡ []
taken_none Logged taken fill (inl none) = none.1
taken_none Logged taken fill (inr some) = absurd (let never : false ≡ true = some.0 in cc)

module _ (functions : Functions) {D R : Type 0} (state : D → State) (sound : (d : D) → IsHonest (state d) → IsSoundDisk (state d)) (old : StoreView D R) (w : WorldState) (mode : Mode) (known : old.world ≡ Some w) where
  -- nothing of the store has changed
  found_taken : (own : List ℕ) (x : Object) (v : Datum) → transaction_value functions.names w x ≡ gives (object_of v) w → TakesForm functions state old old mode own x (Ok (record { value = v; wrote = false }))
  found_taken own x v valued = record {
    accepted = λ u here. let same : w ≡ u = let both = sym known ∙ here in cc in (u, subst (λ (u : WorldState). transaction_value functions.names u x ≡ gives (object_of v) u) same valued, (refl, here));
    cause = λ u here. tt;
    unchanged = tt;
    fault = tt;
    survives = λ u. unchanged_survives functions state sound old old u refl;
  }

  found_told : (v : Datum) (line : List ℕ) → line ≡ value_line w (object_of v) → IsAnswerLine {D = D} {R = R} old (Ok (record { value = v; wrote = false })) line
  found_told v line is = record {
    world = w;
    one = λ u here. let both = sym known ∙ here in cc;
    line_of = is;
  }

  module _ (text : List ℕ) (x : Object) (start next : ℕ) (is : read_in functions w mode text ≡ form x start next next) (v : Datum) (valued : transaction_value functions.names w x ≡ gives (object_of v) w)
      (line : List ℕ) (line_is : line ≡ value_line w (object_of v)) (held written : Option (List ℕ)) where
    pub found_answered : Writes held written line → TriesForm functions state old old w mode text held written (Ok (Accepted false))
    found_answered writes =
        form_answered functions state sound old old w mode text held written known start next next x is (between start next text) refl (Ok (record { value = v; wrote = false })) line
        (found_taken (between start next text) x v valued) (found_told v line line_is) writes (Accepted false) refl

    pub found_unwritten : WritesPart held written line → TriesForm functions state old old w mode text held written (Err OUTPUT)
    found_unwritten part =
        form_unwritten functions state sound old old w mode text held written known start next next x is (between start next text) refl (Ok (record { value = v; wrote = false })) line
        (found_taken (between start next text) x v valued) (found_told v line line_is) part

-- ---- a form that was found

module _ (functions : Functions) (w : WorldState) (wanted : SessionOptions) (bytes piece : List ℕ) (found : FoundLine) (has : HasLine functions w wanted.mode bytes piece found) where
  -- the bytes up to its end
  abbrev pub found_text : List ℕ
  found_text = bytes ++ take found.count piece

  reads_here : read_in functions w wanted.mode found_text ≡ form has.object has.start found.next found.next
  reads_here = ap (read_in functions w wanted.mode) (sym (append-nil found_text)) ∙ has.reads []

  abbrev pub found_own : List ℕ
  found_own = between has.start found.next found_text

  -- it is what the bytes begin with
  unfoldable pub stands_there : (fresh : Pending) → ((later : WorldState) (in_mode : Mode) → IsPending functions later in_mode fresh []) → HasForm functions w wanted.mode fresh found_text has.object found_own false
  stands_there fresh none = record {
    start = has.start;
    stop = found.next;
    next = found.next;
    reads = has.reads;
    is_own = refl;
    next_is = let is = has.next_is in omega arith;
    none = none;
  }

module _ (functions : Functions) {D R : Type 0} (state : D → State) (sound : (d : D) → IsHonest (state d) → IsSoundDisk (state d)) (old : StoreView D R) (w : WorldState) (wanted : SessionOptions) (known : old.world ≡ Some w)
    (bytes piece : List ℕ) (found : FoundLine) (has : HasLine functions w wanted.mode bytes piece found) (held written : Option (List ℕ)) where
  abbrev text : List ℕ
  text = found_text functions w wanted bytes piece found has

  abbrev there : (fresh : Pending) → ((later : WorldState) (in_mode : Mode) → IsPending functions later in_mode fresh [])
      → HasForm functions w wanted.mode fresh text has.object (found_own functions w wanted bytes piece found has) false
  there = stands_there functions w wanted bytes piece found has

  -- it was passed, and none was refused
  pub found_passed : (fresh : Pending) (none : (later : WorldState) (in_mode : Mode) → IsPending functions later in_mode fresh []) → Writes held written found.line.items → (course later : Course) → later ≡ pass found.next course
      → (refusals : List ℕ) × PassesForm functions state course later old old w wanted text held written (there fresh none).start (there fresh none).next refusals × (refusals ≡ [])
  unfolding stands_there
  found_passed fresh none writes course later passed =
      let reads = reads_here functions w wanted bytes piece found has in
      let tries = found_answered functions state sound old w wanted.mode known text has.object has.start found.next reads has.value has.valued found.line.items has.line_is held written writes in
      let paced = none_paced functions old.limit w course.pace tries.0.taken (fill_of state old) (fill_of state old) (taken_none _ tries.0.taken (fill_of state old) tries.2) refl in
      let passes = passes_form functions state course course later old old w wanted text held written has.start found.next (Accepted false) (tries.0, tries.1, paced, tries.3) refl refl passed in
      (passes.0.refused, passes.1, passes.2)

  -- the session has ended in its line, whatever follows
  pub found_stops : (fresh : Pending) → ((later : WorldState) (in_mode : Mode) → IsPending functions later in_mode fresh []) → WritesPart held written found.line.items → (course : Course) (more : List ℕ)
      → HasEndedAt functions state wanted course old old w wanted.mode (text ++ more) held written (ways.Store OUTPUT)
  found_stops fresh none part course more =
      let tries = found_unwritten functions state sound old w wanted.mode known (text ++ more) has.object has.start found.next (has.reads more) has.value has.valued found.line.items has.line_is held written part in
      let stops = stops_at_once functions state sound old old old w wanted.mode (text ++ more) held written refl OUTPUT (tries.1 (λ full. absurd (omega arith))) in
      ends_at_once functions state wanted course old old w wanted.mode (text ++ more) held written OUTPUT (stops.0, stops.1 course.pace)
      (λ far is. text_stays functions w wanted.mode fresh text has.object (found_own functions w wanted bytes piece found has) false (there fresh none) more far is)
