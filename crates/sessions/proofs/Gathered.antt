-- The forms of a group that were answered, or in which the session has ended.
use Rattle.std.proofs.Common.{◌≡◌, ◌≢◌, ◌⊎◌, ℕ, zero, suc, ◌+◌, ◌<◌, ◌≤◌, max, true, List, [], ◌∷◌, ◌++◌, length, drop, Option, None, Some, Ok, Err, refl, sym, ap, subst, ◌∙◌, inl, inr, append_assoc, append-nil, length-append, length-drop, arith}
use Rattle.std.specs.Option.{option_map}
use Rattle.std.proofs.lemmas.List.{drop-drop}
use Rattle.disk_trait.specs.Disk.{State, IsHonest, IsSoundDisk}
use Rattle.gate_log.specs.Layout.{LogRecord, batch_size}
use Rattle.lisp_object.specs.Object.{Object}
use Rattle.lisp_object.specs.declared.refusal.TheConstants.{DEVICE, OUTPUT}
use Rattle.lisp_operators.specs.Evaluation.{Evaluation}
use Rattle.lisp_reading.specs.Reading.{ReadingResult as Reading, form, empty, refused}
use Rattle.canon_printer.specs.Printed.{printed}
use Rattle.plist_state.specs.State.{WorldState}
use Rattle.session_words.specs.declared.mode.Mode.{Mode}
use Rattle.sessions.specs.declared.ending.Ended.TheVariants as ways
use Rattle.session_words.specs.declared.wanted.SessionOptions.{SessionOptions}
use Rattle.sessions.specs.declared.gather.GatheredForms.{GatheredForms}
use Rattle.sessions.specs.declared.group.Grouped.TheVariants as grouped
use Rattle.prevalence_store.specs.meaning.Acceptance.{after, between, read_in, transaction_value}
use Rattle.sessions.specs.FormAnswers.{Progress, after_forms, first_progress, form_progress, last_line, one_form, progress_onward}
use Rattle.prevalence_store.specs.calls.ExecuteAll.{LogsAll}
use Rattle.sessions.specs.Pace.{PacesForms, fill_of}
use Rattle.sessions.specs.Serve.{IsAfter}
use Rattle.prevalence_store.specs.calls.Store.{StoreView}
use Rattle.sessions.specs.Streams.{Writes, WritesPart}
use Rattle.prevalence_store.specs.steps.Batch.{StoresBatch}
use Rattle.sessions.specs.steps.Course.{Course}
use Rattle.sessions.specs.steps.Gather.{AnswersGroup, FailsForms, AreFormsGathered, TakesForms}
use Rattle.sessions.specs.steps.Schedule.{CountsAll, IsBeforeDue, IsBeforeGrown}
use Rattle.sessions.specs.steps.Serve.{HasEndedAt}
use Rattle.sessions.proofs.Progressing.{step_back}
use Rattle.sessions.proofs.Counting.{all_paced, before_grown, counted_all}
use Rattle.sessions.proofs.Endings.{after_none, part_of, writes_nothing}
use Rattle.sessions.proofs.FormAnswers.{some_first, some_last}
use Rattle.sessions.proofs.Pieces.{longer, stays_longer}
use Rattle.sessions.proofs.Groups.{far_failed, far_stored}
use Rattle.prevalence_store.proofs.Surviving.{fewer_survive}
use Rattle.user_macros.specs.Functions.{Functions}

-- ---- a part of some lines

-- two ways to cut a text
cut_twice : (xs ys front rest : List ℕ) → xs ++ ys ≡ front ++ rest
    → ((mid : List ℕ) × (front ≡ xs ++ mid) × (ys ≡ mid ++ rest)) ⊎ ((mid : List ℕ) × (mid ≢ []) × (xs ≡ front ++ mid))
cut_twice [] ys front rest is = inl (front, refl, is)
cut_twice (x ∷ xs) ys [] rest is = inr (x ∷ xs, (λ none. absurd (cc)), refl)
cut_twice (x ∷ xs) ys (c ∷ front) rest is =
    let head : x ≡ c = cc in
    let tail : xs ++ ys ≡ front ++ rest = cc in
    elim (cut_twice xs ys front rest tail) [
      | inl (mid, here, there) ↦ inl (mid, (λ i. sym head i ∷ here i), there)
      | inr (mid, some, here) ↦ inr (mid, some, λ i. head i ∷ here i)
    ]

none_after : (xs ys : List ℕ) → xs ++ ys ≡ [] → ys ≡ []
none_after [] ys none = none
none_after (x ∷ xs) ys none = absurd (cc)

none_before : (xs ys : List ℕ) → xs ++ ys ≡ [] → xs ≡ []
none_before [] ys is = refl
none_before (x ∷ xs) ys is = absurd (cc)

module _ (functions : Functions) where
  some_line : (w : WorldState) (mode : Mode) (own rest : List ℕ) (given : Evaluation Object) → (form_progress w mode own rest given).lines ≢ []
  some_line w mode own rest (Ok done) = some_last (printed done.state.packages done.state.current_package done.value) 10
  some_line w mode own rest (Err number) = λ none. absurd (cc)

  some_of_one : (w : WorldState) (mode : Mode) (text : List ℕ) (r : Reading) (s : Progress) → one_form functions w mode text r ≡ Some s → s.lines ≢ []
  some_of_one w mode text (form x start stop next) s is =
      let same : form_progress w mode (between start stop text) (drop next text) (transaction_value functions.names w x) ≡ s = cc in
      subst (λ (p : Progress). p.lines ≢ []) same (some_line w mode (between start stop text) (drop next text) (transaction_value functions.names w x))
  some_of_one w mode text empty s is = absurd (cc)
  some_of_one w mode text (refused number at) s is = absurd (cc)

  -- one form more, as what comes of it
  one_more_is : (p far : Progress) (one : Option Progress) → option_map (progress_onward p) one ≡ Some far → (s : Progress) × (one ≡ Some s) × (progress_onward p s ≡ far)
  one_more_is p far None is = absurd (cc)
  one_more_is p far (Some s) is = (s, refl, cc)

  -- The lines of some forms were written in part: those of the first of them whole, and a part of the next.
  record IsBroken (n : ℕ) (w : WorldState) (mode : Mode) (text : List ℕ) (far : Progress) (front : List ℕ) : Type 0 where
    lines : ℕ
    fewer : lines < n
    answered : Progress
    answered_is : after_forms functions lines w mode text ≡ Some answered
    next : Progress
    next_is : after_forms functions (lines + 1) w mode text ≡ Some next
    part : List ℕ
    rest : List ℕ
    some : rest ≢ []
    front_is : front ≡ answered.lines ++ part
    next_lines : next.lines ≡ answered.lines ++ part ++ rest
    taken : length answered.taken ≤ length far.taken
    accepted : far.refused ≡ [] → answered.refused ≡ []

  broken : (n : ℕ) (w : WorldState) (mode : Mode) (text : List ℕ) (far : Progress) (front rest : List ℕ) → after_forms functions n w mode text ≡ Some far → far.lines ≡ front ++ rest → rest ≢ []
      → IsBroken n w mode text far front
  broken zero w mode text far front rest is parts some =
      let same : first_progress w text ≡ far = cc in
      absurd (some (none_after front rest (sym (ap (λ (p : Progress). p.lines) same ∙ parts))))
  broken (suc n) w mode text far front rest is parts some =
      let back = step_back functions mode (after_forms functions n w mode text) far is in
      let q : Progress = back.0 in
      let more = one_more_is q far (one_form functions q.world mode q.rest (read_in functions q.world mode q.rest)) back.2 in
      let s : Progress = more.0 in
      let lines : q.lines ++ s.lines ≡ front ++ rest = ap (λ (p : Progress). p.lines) more.2 ∙ parts in
      let count : length q.taken ≤ length far.taken = omega (arith, length-append q.taken s.taken, ap (λ (p : Progress). length p.taken) more.2) in
      let one_more : n + 1 ≡ suc n = omega arith in
      let calm : far.refused ≡ [] → q.refused ≡ [] = λ none. none_before q.refused s.refused (ap (λ (p : Progress). p.refused) more.2 ∙ none) in
      elim (cut_twice q.lines s.lines front rest lines) [
        | inl (mid, here, there) ↦ record {
          lines = n;
          fewer = omega arith;
          answered = q;
          answered_is = back.1;
          next = far;
          next_is = ap (λ k. after_forms functions k w mode text) one_more ∙ is;
          part = mid;
          rest = rest;
          some = some;
          front_is = here;
          next_lines = ap (λ (p : Progress). p.lines) (sym more.2) ∙ ap (λ t. q.lines ++ t) there ∙ sym (append_assoc q.lines mid rest);
          taken = count;
          accepted = calm;
        }
        | inr (mid, some_mid, here) ↦
            let first = broken n w mode text q front mid back.1 here some_mid in
            record {
              lines = first.lines;
              fewer = omega (arith, first.fewer);
              answered = first.answered;
              answered_is = first.answered_is;
              next = first.next;
              next_is = first.next_is;
              part = first.part;
              rest = first.rest;
              some = first.some;
              front_is = first.front_is;
              next_lines = first.next_lines;
              taken = omega (arith, first.taken, count);
              accepted = λ none. first.accepted (calm none);
            }
      ]

  -- ---- what is left of a group

  -- their records take no more bytes than that, in a half of this version
  abbrev pub AreWithinRoom : (room version : ℕ) → GatheredForms → Type 0
  AreWithinRoom room version gathered = (gathered.record_bytes ≤ room) × (gathered.limit.version ≡ version)

  taken_within : (room version : ℕ) (gathered : GatheredForms) (taken : List LogRecord) → gathered.record_bytes ≡ batch_size gathered.limit.version taken → AreWithinRoom room version gathered → batch_size version taken ≤ room
  taken_within room version gathered taken bytes within = omega (arith, bytes, within.0, ap (λ n. batch_size n taken) within.1)

  module _ {D R : Type 0} (state : D → State) (old new : StoreView D R) (w : WorldState) where
    fits_most : (es : List LogRecord) → new.size ≡ old.size + batch_size old.version es → (0 < length es → new.size ≤ old.limit) → new.size ≤ max old.size old.limit
    fits_most [] size fits = omega (arith, size)
    fits_most (e ∷ es) size fits = omega (arith, fits (omega arith))

    all_after : (far : Progress) → LogsAll state old new far.taken far.world → after functions w far.taken ≡ Some far.world → IsAfter functions state old new w far
    all_after far logs again = record {
      left = logs.left;
      records = again;
      limit = logs.limit;
      macros = logs.macros;
      failures = logs.failures;
      mixes = logs.mixes;
      log = inl (record {
        half = logs.half;
        version = logs.version;
        generation = logs.generation;
        record_count = logs.record_count;
        size = logs.size;
        first_size = logs.first_size;
        fits = fits_most far.taken logs.size logs.fits;
        described = logs.described;
        other = logs.other;
        untouched = λ none. logs.nothing (ap length none);
      });
    }

    all_in_pace : (far : Progress) → LogsAll state old new far.taken far.world → after functions w far.taken ≡ Some far.world → (course later : Course) → CountsAll (length far.taken) course.pace later.pace
        → (room : ℕ) → IsBeforeGrown course.pace.ratio (fill_of state old) room → batch_size old.version far.taken ≤ room → PacesForms functions old.limit w far.taken course.pace later.pace (fill_of state old) (fill_of state new)
    all_in_pace far logs again course later counts room before within =
        all_paced functions old.limit w far.world far.taken course.pace later.pace (fill_of state old) (fill_of state new) again counts
        (before_grown course.pace.ratio room (fill_of state old) (fill_of state new) far.taken before within logs.size logs.first_size)
        (λ some. omega (arith, logs.fits some, logs.size)) logs.mixes logs.version logs.generation logs.record_count logs.size logs.first_size

  -- ---- how a session goes on, or has ended

  module _ {D R : Type 0} (state : D → State) (sound : (d : D) → IsHonest (state d) → IsSoundDisk (state d)) (wanted : SessionOptions) (course later : Course) (old new : StoreView D R) (w : WorldState) (text rest : List ℕ)
      (held written : Option (List ℕ)) (known : old.world ≡ Some w) where
    -- the forms were answered
    pub group_answered : (gathered : GatheredForms) (next count : ℕ) → TakesForms functions wanted state old new w text gathered → Writes held written gathered.lines.items → drop next text ≡ rest
        → gathered.bytes ≡ next + count → CountsAll gathered.records course.pace later.pace → (room : ℕ) → IsBeforeGrown course.pace.ratio (fill_of state old) room → AreWithinRoom room old.version gathered → later.forms ≡ course.forms + gathered.forms → later.bytes ≡ course.bytes + gathered.bytes
        → AnswersGroup functions wanted state course later old new w text rest held written (grouped.Answered count)
    group_answered gathered next count took writes left many counts room before within forms bytes pending none =
        let is = took.makes in
        let far : Progress = is.far in
        let stores = far_stored functions wanted state old new w text gathered took in
        let far_is : after_forms functions gathered.forms w wanted.mode text ≡ Some far =
        ap (after_forms functions gathered.forms w wanted.mode) (sym (append-nil text)) ∙ is.stays [] ∙ ap (λ t. Some (record far { rest = t })) (append-nil far.rest) in
        let entries : gathered.records ≡ length far.taken = is.counted ∙ ap length is.taken in
        record {
          forms = gathered.forms;
          far = far;
          advances = record {
            far_is = far_is;
            lines = subst (Writes held written) is.lines writes;
            after = all_after state old new w far stores.logs is.again;
            survives = stores.survives;
          };
          paced = all_in_pace state old new w far stores.logs is.again course later (subst (λ n. CountsAll n course.pace later.pace) entries counts)
              room before (taken_within room old.version gathered far.taken is.record_bytes within);
          comes = record {
            forms_are = omega (arith, forms);
            bytes_are = omega (arith, bytes, ap length is.rest, length-drop gathered.bytes text, is.within);
          };
          accepted = is.accepted;
          stays = is.stays;
          bytes = [];
          rest = is.rest ∙ ap (λ n. drop n text) many ∙ sym (drop-drop count next text) ∙ ap (drop count) left;
          is_pending = none far.world;
        }

    -- the device failed as they were logged
    pub group_stopped : wanted.group ≡ true → FailsForms functions wanted state old new w text → written ≡ held
        → AnswersGroup functions wanted state course later old new w text rest held written (grouped.Ended (ways.Store DEVICE))
    group_stopped grouped fault quiet more =
        let gathered : GatheredForms = fault.makes.0 in
        let is = fault.makes.2 in
        let far : Progress = is.far in
        let fails = far_failed functions wanted state old new w text fault in (
          record {
            serves = record {
              forms = gathered.forms;
              far = longer far more;
              far_is = is.stays more;
              lines = 0;
              answered = first_progress w (text ++ more);
              answered_is = refl;
              at_most = omega arith;
              in_turn = λ none. absurd (cc);
              part = [];
              output = writes_nothing held written quiet;
              survives = fails.survives;
              ends = inl (record {
                device = refl;
                some_open = fault.makes.1;
                no_part = refl;
                mid = old;
                before = after_none functions state sound old old w wanted.mode (text ++ more) held held known (text ++ more) [] [] refl;
                entries = far.taken;
                some = fails.some;
                one_open = λ none. absurd (cc);
                were_accepted = refl;
                fits = fails.fits;
                failed = fails.failed;
                all_or_none = fails.all_or_none;
              });
            };
            paced = inr (inr (inr (record {
              device = refl;
              some_open = fault.makes.1;
              before = inl (course.pace, (refl, λ i. record { mixes = fails.failed.mixes i; version = fails.failed.version i; generation = fails.failed.generation i; record_count = fails.failed.record_count i; size = fails.failed.size i; first_size = fails.failed.first_size i }));
            })));
            stays = (λ output. absurd (omega arith), stays_longer functions gathered.forms w wanted.mode text more far is.stays);
          },
          λ strict. (refl, λ _. is.accepted strict),
        )

    -- the writer failed in their lines
    pub group_unwritten : wanted.group ≡ true → (gathered : GatheredForms) → 0 < gathered.forms → TakesForms functions wanted state old new w text gathered → WritesPart held written gathered.lines.items
        → IsBeforeDue course.pace gathered.records → (room : ℕ) → IsBeforeGrown course.pace.ratio (fill_of state old) room → AreWithinRoom room old.version gathered
        → AnswersGroup functions wanted state course later old new w text rest held written (grouped.Ended (ways.Store OUTPUT))
    group_unwritten grouped gathered some took writes before room small within more = by_part (part_of held written far.lines (some_lines gathered.forms some far_is) (subst (WritesPart held written) is.lines writes)) where
      is : AreFormsGathered functions wanted w text took.left took.records gathered
      is = took.makes

      stores : StoresBatch functions state old new w is.far.world is.far.taken
      stores = far_stored functions wanted state old new w text gathered took

      far : Progress
      far = longer is.far more

      far_is : after_forms functions gathered.forms w wanted.mode (text ++ more) ≡ Some far
      far_is = is.stays more

      some_lines : (n : ℕ) → 0 < n → after_forms functions n w wanted.mode (text ++ more) ≡ Some far → far.lines ≢ []
      some_lines zero none there no_line = absurd (omega (arith, none))
      some_lines (suc n) some there no_line =
          let back = step_back functions wanted.mode (after_forms functions n w wanted.mode (text ++ more)) far there in
          let q : Progress = back.0 in
          let last = one_more_is q far (one_form functions q.world wanted.mode q.rest (read_in functions q.world wanted.mode q.rest)) back.2 in
          some_of_one q.world wanted.mode q.rest (read_in functions q.world wanted.mode q.rest) last.0 last.1
          (none_after q.lines last.0.lines (ap (λ (p : Progress). p.lines) last.2 ∙ no_line))

      by_part : (front : List ℕ) × (unwritten : List ℕ) × (far.lines ≡ front ++ unwritten) × (unwritten ≢ []) × Writes held written front
          → HasEndedAt functions state wanted course old new w wanted.mode (text ++ more) held written (ways.Store OUTPUT)
      by_part (front, unwritten, parts, some_left, wrote) =
          let at = broken gathered.forms w wanted.mode (text ++ more) far front unwritten far_is parts some_left in
          let last : List ℕ = last_line (read_in functions far.world wanted.mode far.rest) in
          let counted = counted_all (length far.taken) course.pace (subst (IsBeforeDue course.pace) (is.counted ∙ ap length is.taken) before) in (
            record {
              serves = record {
                forms = gathered.forms;
                far = far;
                far_is = far_is;
                lines = at.lines;
                answered = at.answered;
                answered_is = at.answered_is;
                at_most = omega (arith, at.fewer);
                in_turn = λ none. absurd (cc);
                part = at.part;
                output = subst (Writes held written) at.front_is wrote;
                survives = λ here claims keeps.
                    fewer_survive functions (state old.disk) (state new.disk) w far.taken (length far.taken) (length at.answered.taken) new.world (stores.survives here claims keeps) at.taken;
                ends = inr (inr (inr (inr (inr (inl (record {
                  output = refl;
                  unwritten = unwritten ++ last;
                  some_left = some_first unwritten last some_left;
                  front = ap (λ t. t ++ last) (parts ∙ ap (λ t. t ++ unwritten) at.front_is) ∙ append_assoc (at.answered.lines ++ at.part) unwritten last;
                  in_form = λ fewer. (at.next, at.next_is, (at.rest, at.some, at.next_lines));
                  after = all_after state old new w far stores.logs is.again;
                }))))));
              };
              paced = inl (record {
                paced = (
                  counted.0,
                  all_in_pace state old new w far stores.logs is.again course (record course { pace = counted.0 }) counted.1
                      room small (taken_within room old.version gathered far.taken is.record_bytes within),
                );
                other = λ full. absurd (omega arith);
                fault = λ device. absurd (omega arith);
              });
              stays = (λ output all. absurd (omega (arith, all, at.fewer)), stays_longer functions gathered.forms w wanted.mode text more is.far is.stays);
            },
            λ strict. (at.accepted (is.accepted strict), λ _. is.accepted strict),
          )
