-- How a session ends at what was read: at no memory, at a refusal of the reader, and in a form.
use Rattle.std.proofs.Common.{◌≡◌, ℕ, zero, suc, ◌+◌, ◌≤◌, true, List, [], ◌++◌, length, Option, Some, Result, Ok, Err, inl, inr, refl, sym, ap, subst, ◌∙◌, append_assoc, append-nil, length-append, arith}
use Rattle.disk_trait.specs.Disk.{State, IsHonest, IsSoundDisk}
use Rattle.lisp_object.specs.Object.{Object}
use Rattle.lisp_object.specs.declared.refusal.TheConstants.{NO_MEMORY}
use Rattle.form_reader.specs.Reader.{BeginsAt, IsDecidedFrom}
use Rattle.lisp_reading.specs.Deciding.{decided_from}
use Rattle.lisp_reading.specs.Reading.{empty, refused}
use Rattle.plist_state.specs.State.{WorldState}
use Rattle.session_words.specs.declared.mode.Mode.{Mode}
use Rattle.sessions.specs.declared.ending.Ended.{Ended}
use Rattle.sessions.specs.declared.ending.Ended.TheVariants as ways
use Rattle.sessions.specs.declared.ending.Ending.{Ending}
use Rattle.sessions.specs.declared.ending.Ending.TheVariants.{End, Reader, Store}
use Rattle.sessions.specs.declared.ending.Place.{Place}
use Rattle.session_words.specs.declared.wanted.SessionOptions.{SessionOptions}
use Rattle.sessions.specs.declared.answer.Answered.{Answered}
use Rattle.sessions.specs.declared.answer.Answered.TheVariants.{Accepted, Refused}
use Rattle.sessions.specs.declared.input.Pending.{Pending}
use Rattle.prevalence_store.specs.meaning.Acceptance.{read_in, setting_in}
use Rattle.sessions.specs.FormAnswers.{Progress, after_forms, first_progress}
use Rattle.sessions.specs.Pace.{PacesForms, fill_of}
use Rattle.sessions.specs.Serve.{IsRefusedFrom, IsFormUnaccepted, ServesInPace, StaysAnswered, StopsStrict}
use Rattle.prevalence_store.specs.calls.Store.{StoreView}
use Rattle.sessions.specs.steps.Answer.{AnswersFault, AnswersForm, AnswersRead, BeginsWithForm, PassesForm, StopsInForm, TellsForm}
use Rattle.sessions.specs.steps.Course.{Course, pass}
use Rattle.sessions.specs.steps.Input.{HasRefusal}
use Rattle.sessions.specs.steps.Serve.{AnswersPiece, EndsAt, HasEndedAt, ended_at}
use Rattle.sessions.proofs.Places.{place_at_once, refuses_from, refuses_more_from}
use Rattle.sessions.proofs.Endings.{any_group, done, fault_answered, no_memory, nothing}
use Rattle.sessions.proofs.Pacing.{done_paced, fault_paced, no_memory_paced}
use Rattle.user_macros.specs.Functions.{Functions}

-- what was not refused, as it is told
pub tells_accepted : (functions : Functions) (w : WorldState) (mode : Mode) (text : List ℕ) (far : Progress) (answered : Answered) → ((number : ℕ) → answered ≡ Refused number → ⊥) → TellsForm functions w mode text far answered → far.refused ≡ []
tells_accepted functions w mode text far (Accepted logged) other tells = tells
tells_accepted functions w mode text far (Refused number) other tells = absurd (other number refl)

-- of one form at most
few_stay : (functions : Functions) (w : WorldState) (mode : Mode) (text : List ℕ) (forms : ℕ) (far : Progress) → forms ≤ 1 → after_forms functions forms w mode text ≡ Some far
    → ((other : Progress) → after_forms functions 1 w mode text ≡ Some other → StaysAnswered functions w mode text 1 other) → StaysAnswered functions w mode text forms far
few_stay functions w mode text zero far few is stays = λ more. let same : first_progress w text ≡ far = cc in ap (λ (p : Progress). Some (record p { rest = p.rest ++ more })) same
few_stay functions w mode text (suc zero) far few is stays = stays far is
few_stay functions w mode text (suc (suc forms)) far few is stays = absurd (omega (arith, few))

module _ (functions : Functions) {D R : Type 0} (state : D → State) where
  -- the session ended before any answer, whatever follows the text
  pub ends_at_once : (wanted : SessionOptions) (course : Course) (old new : StoreView D R) (w : WorldState) (mode : Mode) (text : List ℕ) (a b : Option (List ℕ)) (number : ℕ)
      → (stops : StopsInForm functions state old new w mode text a b number) × ServesInPace functions state course.pace old new w mode text a b (Store number) stops.serves
      → ((far : Progress) → after_forms functions 1 w mode text ≡ Some far → StaysAnswered functions w mode text 1 far)
      → HasEndedAt functions state wanted course old new w mode text a b (ways.Store number)
  unfolding any_group
  ends_at_once wanted course old new w mode text a b number is stays = (
    record {
      serves = any_group functions state old new w mode text a b wanted.group (Store number) is.0.serves;
      paced = is.1;
      stays = (λ output all. (let one = is.0.in_form output in absurd (omega arith)), few_stay functions w mode text is.0.serves.forms is.0.serves.far is.0.one is.0.serves.far_is stays);
    },
    λ is_strict. (is.0.accepted, λ more. let one = is.0.serves.in_turn refl in absurd (omega (arith, more, one))),
  )

  -- the reader refused the text, whatever follows it
  pub fault_ended : (sound : (d : D) → IsHonest (state d) → IsSoundDisk (state d)) (wanted : SessionOptions) (course later : Course) (old new : StoreView D R) (w : WorldState) (mode : Mode) (text : List ℕ) (a b : Option (List ℕ)) (pending : Pending)
      (number : ℕ) → old.world ≡ Some w → (refuses : HasRefusal functions w mode text number) → new ≡ old → (start : ℕ) (place : Place) → place.forms ≡ course.forms → place.start ≡ course.bytes + start
      → place.at ≡ course.bytes + refuses.at → BeginsAt (setting_in functions w mode) text start × IsDecidedFrom (setting_in functions w mode) text start → (ending : Ending) → AnswersFault number a b ending
      → AnswersPiece functions state wanted course later old new w mode text a b pending (Some (ended_at place ending))
  unfolding fault_answered nothing
  fault_ended sound wanted course later old new w mode text a b pending number known refuses same start place forms_is start_is at_is begins ending answers more = by_ending ending answers where
    still : (others : List ℕ) → read_in functions w mode ((text ++ more) ++ others) ≡ refused number refuses.at
    still others = ap (read_in functions w mode) (append_assoc text more others) ∙ refuses.reads (more ++ others)

    longer_within : start ≤ length (text ++ more)
    longer_within = let many = length-append text more in let within = begins.0.within in omega arith

    -- what was refused begins at the start
    from_start : IsRefusedFrom functions w mode (text ++ more) number refuses.at start
    from_start = refuses_more_from functions w mode text more start number refuses.at begins.0
        (ap (read_in functions w mode) (sym (append-nil text)) ∙ refuses.reads []) (refuses.reads more)

    by_ending : (e : Ending) → AnswersFault number a b e → HasEndedAt functions state wanted course old new w mode (text ++ more) a b (ended_at place e)
    by_ending End is = absurd is
    by_ending (Reader code) is = (
      record {
        serves = fault_answered functions state sound old new w mode (text ++ more) a b known wanted.group number refuses.at (refuses.reads more) same (Reader code) is;
        paced = fault_paced functions state sound old new w mode (text ++ more) a b known wanted.group number refuses.at (refuses.reads more) same (Reader code) is course.pace;
        stays = (refuses.at, λ others. (refl, still others ∙ ap (λ n. refused n refuses.at) (sym is.0)));
      },
      λ is_strict. (refl, λ more. absurd (omega (arith, more))),
      (
        refuses.at,
        refuses.reads more ∙ ap (λ n. refused n refuses.at) (sym is.0),
        place_at_once course (text ++ more) start refuses.at place forms_is start_is at_is longer_within,
        subst (λ k. place.start + length (text ++ more) ≡ course.bytes + length (text ++ more) + k) (sym (begins.1 more)) (omega (arith, start_is)),
        subst (λ k. IsRefusedFrom functions w mode (text ++ more) code refuses.at k) (sym (begins.1 more))
            (subst (λ n. IsRefusedFrom functions w mode (text ++ more) n refuses.at start) (sym is.0) from_start),
      ),
    )
    by_ending (Store code) (inl full) = (
      record {
        serves = fault_answered functions state sound old new w mode (text ++ more) a b known wanted.group number refuses.at (refuses.reads more) same (Store code) (inl full);
        paced = fault_paced functions state sound old new w mode (text ++ more) a b known wanted.group number refuses.at (refuses.reads more) same (Store code) (inl full) course.pace;
        stays = (λ output all. (number, (refuses.at, λ others. (refl, still others))), λ others. refl);
      },
      λ is_strict. (refl, λ more. absurd (omega (arith, more))),
    )
    by_ending (Store code) (inr memory) = (
      record {
        serves = fault_answered functions state sound old new w mode (text ++ more) a b known wanted.group number refuses.at (refuses.reads more) same (Store code) (inr memory);
        paced = fault_paced functions state sound old new w mode (text ++ more) a b known wanted.group number refuses.at (refuses.reads more) same (Store code) (inr memory) course.pace;
        stays = (λ output all. (number, (refuses.at, λ others. (refl, still others))), λ others. refl);
      },
      λ is_strict. (refl, λ more. absurd (omega (arith, more))),
    )

  -- there is no memory for what was read
  pub memory_ended : (sound : (d : D) → IsHonest (state d) → IsSoundDisk (state d)) (wanted : SessionOptions) (course : Course) (old : StoreView D R) (w : WorldState) (mode : Mode) (text : List ℕ) (held : Option (List ℕ)) → old.world ≡ Some w
      → HasEndedAt functions state wanted course old old w mode text held held (ways.Store NO_MEMORY)
  unfolding no_memory nothing
  memory_ended sound wanted course old w mode text held known = (
    record {
      serves = no_memory functions state sound old old w mode text held held known wanted.group refl refl;
      paced = no_memory_paced functions state sound old old w mode text held held known wanted.group refl refl course.pace;
      stays = (λ output. absurd (omega arith), λ others. refl);
    },
    λ is_strict. (refl, λ more. absurd (omega (arith, more))),
  )

  pub memory_at_end : (sound : (d : D) → IsHonest (state d) → IsSoundDisk (state d)) (wanted : SessionOptions) (course : Course) (old : StoreView D R) (w : WorldState) (mode : Mode) (text : List ℕ) (held : Option (List ℕ)) → old.world ≡ Some w
      → EndsAt functions state wanted course old old w mode text held held (ways.Store NO_MEMORY)
  unfolding no_memory nothing
  memory_at_end sound wanted course old w mode text held known = (
    (
      no_memory functions state sound old old w mode text held held known wanted.group refl refl,
      no_memory_paced functions state sound old old w mode text held held known wanted.group refl refl course.pace,
      λ is_strict. (refl, λ more. absurd (omega (arith, more))),
    ),
    λ input. absurd (omega (arith, input)),
  )

  -- nothing is left at the end of the input
  pub done_at_end : (sound : (d : D) → IsHonest (state d) → IsSoundDisk (state d)) (wanted : SessionOptions) (course : Course) (old : StoreView D R) (w : WorldState) (mode : Mode) (text : List ℕ) (held : Option (List ℕ)) → old.world ≡ Some w
      → empty ≡ read_in functions w mode text → EndsAt functions state wanted course old old w mode text held held ways.End
  unfolding done nothing
  done_at_end sound wanted course old w mode text held known none = (
    done functions state sound old old w mode text held held known wanted.group refl refl none,
    done_paced functions state sound old old w mode text held held known wanted.group refl refl none course.pace,
    λ is_strict. (refl, λ more. absurd (omega (arith, more))),
  )

  -- the reader refuses the text at the end of the input
  pub fault_at_end : (sound : (d : D) → IsHonest (state d) → IsSoundDisk (state d)) (wanted : SessionOptions) (course : Course) (old new : StoreView D R) (w : WorldState) (mode : Mode) (text : List ℕ) (a b : Option (List ℕ)) (number at : ℕ)
      → old.world ≡ Some w → (reads : read_in functions w mode text ≡ refused number at) → new ≡ old → (start : ℕ) (place : Place) → place.forms ≡ course.forms → place.start ≡ course.bytes + start → place.at ≡ course.bytes + at
      → BeginsAt (setting_in functions w mode) text start × (decided_from (setting_in functions w mode) text ≡ start) → (ending : Ending) → AnswersFault number a b ending → EndsAt functions state wanted course old new w mode text a b (ended_at place ending)
  unfolding fault_answered nothing
  fault_at_end sound wanted course old new w mode text a b number at known reads same start place forms_is start_is at_is begins End answers = absurd answers
  fault_at_end sound wanted course old new w mode text a b number at known reads same start place forms_is start_is at_is begins (Reader code) answers = (
    (
      fault_answered functions state sound old new w mode text a b known wanted.group number at reads same (Reader code) answers,
      fault_paced functions state sound old new w mode text a b known wanted.group number at reads same (Reader code) answers course.pace,
      λ is_strict. (refl, λ more. absurd (omega (arith, more))),
    ),
    (
      at,
      reads ∙ ap (λ n. refused n at) (sym answers.0),
      place_at_once course text start at place forms_is start_is at_is begins.0.within,
      subst (λ k. place.start + length text ≡ course.bytes + length text + k) (sym begins.1) (omega (arith, start_is)),
      subst (λ k. IsRefusedFrom functions w mode text code at k) (sym begins.1)
          (subst (λ n. IsRefusedFrom functions w mode text n at start) (sym answers.0) (refuses_from functions w mode text start number at begins.0 reads)),
    ),
  )
  fault_at_end sound wanted course old new w mode text a b number at known reads same start place forms_is start_is at_is begins (Store code) (inl full) = (
    (
      fault_answered functions state sound old new w mode text a b known wanted.group number at reads same (Store code) (inl full),
      fault_paced functions state sound old new w mode text a b known wanted.group number at reads same (Store code) (inl full) course.pace,
      λ is_strict. (refl, λ more. absurd (omega (arith, more))),
    ),
    λ input. absurd (omega (arith, full.0, input)),
  )
  fault_at_end sound wanted course old new w mode text a b number at known reads same start place forms_is start_is at_is begins (Store code) (inr memory) = (
    (
      fault_answered functions state sound old new w mode text a b known wanted.group number at reads same (Store code) (inr memory),
      fault_paced functions state sound old new w mode text a b known wanted.group number at reads same (Store code) (inr memory) course.pace,
      λ is_strict. (refl, λ more. absurd (omega (arith, more))),
    ),
    λ input. absurd (omega (arith, memory.0, input)),
  )

  -- the form that the text begins with was refused, and the session is strict
  strict_stops : (wanted : SessionOptions) (course later : Course) (old new : StoreView D R) (w : WorldState) (text : List ℕ) (a b : Option (List ℕ)) (start next number : ℕ) (place : Place)
      → AnswersRead functions state course later old new w wanted text a b start next (Err (ways.Unaccepted number place)) → start ≤ length text
      → StopsStrict functions state old new w wanted.mode text a b course.pace course.forms course.bytes number place
  strict_stops wanted course later old new w text a b start next number place (is_strict, passes, refuses, forms_is, start_is, at_is) within = record {
    forms = 1;
    far = passes.far;
    advances = passes.advances;
    later = later.pace;
    paced = passes.paced;
    accepted = 0;
    one_more = refl;
    before = first_progress w text;
    before_is = refl;
    none_refused = refl;
    start = start;
    refuses = refuses;
    is_place = place_at_once course text start start place forms_is start_is at_is within;
    begins = start_is ∙ sym at_is;
  }

  -- the session ended in the form that the text begins with
  pub read_ended : (wanted : SessionOptions) (course later : Course) (old new : StoreView D R) (w : WorldState) (text : List ℕ) (a b : Option (List ℕ)) (start next : ℕ) (ended : Ended)
      → AnswersRead functions state course later old new w wanted text a b start next (Err ended) → start ≤ length text
      → ((far : Progress) → after_forms functions 1 w wanted.mode text ≡ Some far → StaysAnswered functions w wanted.mode text 1 far) → HasEndedAt functions state wanted course old new w wanted.mode text a b ended
  unfolding strict_stops
  read_ended wanted course later old new w text a b start next ways.End is within stays = absurd is
  read_ended wanted course later old new w text a b start next (ways.Unreadable number place) is within stays = absurd is
  read_ended wanted course later old new w text a b start next (ways.Unaccepted number place) is within stays =
      (is.0, strict_stops wanted course later old new w text a b start next number place is within, (stays is.1.far is.1.advances.far_is, λ more. refl))
  read_ended wanted course later old new w text a b start next (ways.Store number) is within stays = ends_at_once wanted course old new w wanted.mode text a b number is stays

  pub read_at_end : (wanted : SessionOptions) (course later : Course) (old new : StoreView D R) (w : WorldState) (text : List ℕ) (a b : Option (List ℕ)) (start next : ℕ) (ended : Ended)
      → AnswersRead functions state course later old new w wanted text a b start next (Err ended) → start ≤ length text → EndsAt functions state wanted course old new w wanted.mode text a b ended
  unfolding any_group
  read_at_end wanted course later old new w text a b start next ways.End is within = absurd is
  read_at_end wanted course later old new w text a b start next (ways.Unreadable number place) is within = absurd is
  read_at_end wanted course later old new w text a b start next (ways.Unaccepted number place) is within = (is.0, strict_stops wanted course later old new w text a b start next number place is within)
  read_at_end wanted course later old new w text a b start next (ways.Store number) is within =
      ((any_group functions state old new w wanted.mode text a b wanted.group (Store number) is.0.serves, is.1, λ is_strict. (is.0.accepted, λ more. let one = is.0.serves.in_turn refl in absurd (omega (arith, more, one)))), is.0.no_input)

  -- the same where nothing was done before
  pub read_from : (course mid later : Course) (old between new : StoreView D R) (w : WorldState) (wanted : SessionOptions) (text : List ℕ) (a b c : Option (List ℕ)) (start next : ℕ) (result : Result Unit Ended) → between ≡ old → b ≡ a → mid ≡ course
      → AnswersRead functions state mid later between new w wanted text b c start next result → AnswersRead functions state course later old new w wanted text a c start next result
  read_from course mid later old between new w wanted text a b c start next result same quiet stays answered =
      subst (λ (k : Course). AnswersRead functions state k later old new w wanted text a c start next result) stays
      (subst (λ (s : StoreView D R). AnswersRead functions state mid later s new w wanted text a c start next result) same
      (subst (λ t. AnswersRead functions state mid later between new w wanted text t c start next result) quiet answered))

  -- a form that was passed, by its offsets in the text
  pub at_starts : (course later : Course) (old new : StoreView D R) (w : WorldState) (wanted : SessionOptions) (text : List ℕ) (a b : Option (List ℕ)) (start next from to : ℕ) (refusals : List ℕ) → from ≡ start → to ≡ next
      → PassesForm functions state course later old new w wanted text a b start next refusals → PassesForm functions state course later old new w wanted text a b from to refusals
  at_starts course later old new w wanted text a b start next from to refusals start_is next_is passes = record {
    far = passes.far;
    advances = passes.advances;
    paced = passes.paced;
    forms = passes.forms;
    bytes = passes.bytes ∙ ap (λ n. course.bytes + n) (sym next_is);
    refused_are = passes.refused_are;
  }

  -- a form that was answered, and whose bytes were passed
  pub passes_form : (course mid later : Course) (old new : StoreView D R) (w : WorldState) (wanted : SessionOptions) (text : List ℕ) (a b : Option (List ℕ)) (start next : ℕ) (answered : Answered)
      → AnswersForm functions state old new w wanted.mode course.pace mid.pace text a b (Ok answered) → mid.forms ≡ course.forms → mid.bytes ≡ course.bytes → later ≡ pass next mid
      → (far : Progress) × PassesForm functions state course later old new w wanted text a b start next far.refused × TellsForm functions w wanted.mode text far answered
  passes_form course mid later old new w wanted text a b start next answered is forms bytes passed = (
    is.0,
    record {
      far = is.0;
      advances = is.1;
      paced = subst (λ (k : Course). PacesForms functions old.limit w is.0.taken course.pace k.pace (fill_of state old) (fill_of state new)) (sym passed) is.2;
      forms = ap (λ (k : Course). k.forms) passed ∙ ap (λ n. n + 1) forms;
      bytes = ap (λ (k : Course). k.bytes) passed ∙ ap (λ n. n + next) bytes;
      refused_are = refl;
    },
    is.3,
  )

  -- it was refused where it begins
  pub refused_there : (course later : Course) (old new : StoreView D R) (w : WorldState) (wanted : SessionOptions) (text : List ℕ) (a b : Option (List ℕ)) (x : Object) (own : List ℕ) (start next number : ℕ) (far : Progress) (place : Place)
      → wanted.strict ≡ true → (passes : PassesForm functions state course later old new w wanted text a b start next far.refused) → TellsForm functions w wanted.mode text far (Refused number)
      → (n : ℕ) (begins : BeginsWithForm functions w wanted.mode text x own n) → begins.start ≡ start → place.forms ≡ course.forms → place.start ≡ course.bytes + start → place.at ≡ course.bytes + start
      → AnswersRead functions state course later old new w wanted text a b start next (Err (ways.Unaccepted number place))
  refused_there course later old new w wanted text a b x own start next number far place strict passes tells n begins start_is forms_is first_is at_is =
      let told = tells.1 in
      let same : told.0 ≡ begins.start = let one = sym told.1.reads ∙ begins.reads in cc in (
        strict,
        subst (λ l. PassesForm functions state course later old new w wanted text a b start next l) tells.0 passes,
        subst (λ k. IsFormUnaccepted functions w wanted.mode text number k) (same ∙ start_is) told.1,
        forms_is,
        first_is,
        at_is,
      )
