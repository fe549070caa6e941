-- How what was answered joins, and that it stays whatever follows the text.
use Rattle.std.proofs.Common.{◌≡◌, ℕ, ◌+◌, ◌≤◌, Bool, true, cond, List, [], ◌++◌, length, take, drop, Option, None, Some, Result, Ok, Err, inl, inr, refl, sym, ap, subst, ◌∙◌, append_assoc, append-nil, length-append, arith}
use Rattle.std.proofs.lemmas.List.{take-append-drop}
use Rattle.disk_trait.specs.Disk.{State, IsHonest, IsSoundDisk}
use Rattle.lisp_object.specs.Object.{Object}
use Rattle.lisp_object.specs.declared.refusal.TheConstants.{INPUT}
use Rattle.plist_state.specs.State.{WorldState}
use Rattle.form_reader.specs.Reader.{MayGoOn}
use Rattle.sessions.specs.declared.input.Pending.{Pending}
use Rattle.session_words.specs.declared.mode.Mode.{Mode}
use Rattle.sessions.specs.declared.ending.Ended.{Ended}
use Rattle.sessions.specs.declared.ending.Ended.TheVariants as ways
use Rattle.sessions.specs.declared.ending.Place.{Place}
use Rattle.session_words.specs.declared.wanted.SessionOptions.{SessionOptions}
use Rattle.sessions.specs.declared.ending.Ending.{Ending}
use Rattle.sessions.specs.declared.ending.Ending.TheVariants.{End, Reader, Store}
use Rattle.prevalence_store.specs.meaning.Acceptance.{read_in}
use Rattle.user_macros.specs.Functions.{Functions}
use Rattle.sessions.specs.FormAnswers.{Progress, after_forms, first_progress, progress_onward}
use Rattle.sessions.specs.steps.Input.{HasForm, IsPending}
use Rattle.sessions.specs.Pace.{EndsInPace, PacesForms, fill_of}
use Rattle.sessions.specs.Serve.{Advances, AreFormsAccepted, IsAfter, IsPlace, Serves, ServesInPace, StaysAnswered, StaysRefused, StopsStrict}
use Rattle.prevalence_store.specs.calls.Store.{StoreView}
use Rattle.sessions.specs.steps.Serve.{AnswersPiece, PieceComesTo, EndsAt, SessionGoesOn, HasEndedAt, ServesStrict}
use Rattle.sessions.specs.steps.Course.{Course}
use Rattle.sessions.specs.steps.Answer.{PassesForm}
use Rattle.sessions.proofs.Pacing.{ends_after, paces_both}
use Rattle.sessions.specs.Streams.{Writes}
use Rattle.sessions.proofs.Progressing.{advance_both, forms_onward, serve_both}
use Rattle.prevalence_store.proofs.Surviving.{unchanged_survives}
use Rattle.sessions.proofs.Endings.{after_none, writes_nothing}
use Rattle.sessions.proofs.Pieces.{longer, piece_whole, piece_left, next_is, after_form, stays_longer}

module _ (functions : Functions) {D R : Type 0} (state : D → State) where
  after_longer : (old new : StoreView D R) (w : WorldState) (far : Progress) (more : List ℕ) → IsAfter functions state old new w far → IsAfter functions state old new w (longer far more)
  after_longer old new w far more a = record { left = a.left; records = a.records; limit = a.limit; macros = a.macros; failures = a.failures; mixes = a.mixes; log = a.log }

  -- the same forms, of a text that goes on
  pub extended : (strict : Bool) (course later : Course) (old new : StoreView D R) (w : WorldState) (mode : Mode) (text : List ℕ) (a b : Option (List ℕ)) (pending : Pending) (left more : List ℕ)
      → SessionGoesOn functions state strict course later old new w mode text a b pending left → SessionGoesOn functions state strict course later old new w mode (text ++ more) a b pending (left ++ more)
  extended strict course later old new w mode text a b pending left more goes = record {
    forms = goes.forms;
    far = longer goes.far more;
    advances = record {
      far_is = goes.stays more;
      lines = goes.advances.lines;
      after = after_longer old new w goes.far more goes.advances.after;
      survives = goes.advances.survives;
    };
    paced = goes.paced;
    comes = record {
      forms_are = goes.comes.forms_are;
      bytes_are =
          let is = goes.comes.bytes_are in
          let longer_rest = length-append goes.far.rest more in
          let longer_text = length-append text more in
          omega arith;
    };
    accepted = goes.accepted;
    stays = stays_longer functions goes.forms w mode text more goes.far goes.stays;
    bytes = goes.bytes;
    rest = ap (λ t. t ++ more) goes.rest ∙ append_assoc goes.bytes left more;
    is_pending = goes.is_pending;
  }

  -- nothing was answered yet
  pub nothing_answered : ((d : D) → IsHonest (state d) → IsSoundDisk (state d)) → (strict : Bool) (course : Course) (old : StoreView D R) (w : WorldState) (mode : Mode) (text : List ℕ) (held : Option (List ℕ)) (pending : Pending)
      → old.world ≡ Some w → IsPending functions w mode pending text → SessionGoesOn functions state strict course course old old w mode text held held pending []
  nothing_answered sound strict course old w mode text held pending known is = record {
    forms = 0;
    far = first_progress w text;
    advances = record {
      far_is = refl;
      lines = writes_nothing held held refl;
      after = after_none functions state sound old old w mode text held held known text [] [] refl;
      survives = unchanged_survives functions state sound old old w refl;
    };
    paced = (refl, refl);
    comes = record { forms_are = omega arith; bytes_are = refl };
    accepted = λ is_strict. refl;
    stays = λ more. refl;
    bytes = text;
    rest = sym (append-nil text);
    is_pending = is;
  }

  -- what was answered of what was fed of a piece, and what is left of it
  pub answered_within : (strict : Bool) (course later : Course) (old new : StoreView D R) (w : WorldState) (mode : Mode) (a b : Option (List ℕ)) (pending : Pending) (bytes piece left : List ℕ) (n : ℕ)
      → SessionGoesOn functions state strict course later old new w mode (bytes ++ take n piece) a b pending left → SessionGoesOn functions state strict course later old new w mode (bytes ++ piece) a b pending (left ++ drop n piece)
  answered_within strict course later old new w mode a b pending bytes piece left n goes =
      subst (λ t. SessionGoesOn functions state strict course later old new w mode t a b pending (left ++ drop n piece)) (piece_whole bytes piece n)
      (extended strict course later old new w mode (bytes ++ take n piece) a b pending left (drop n piece) goes)

  -- a form that a piece decides was answered, and so many bytes of the piece were taken
  pub form_answered : (w : WorldState) (mode : Mode) (pending : Pending) (bytes piece : List ℕ) (n count : ℕ) (x : Object) (own : List ℕ) (left : Bool)
      → (has : HasForm functions w mode pending (bytes ++ take n piece) x own left) → n ≤ length piece → count + cond left 1 0 ≡ n → (wanted : SessionOptions) → wanted.mode ≡ mode → (course later : Course) (old new : StoreView D R)
      (a b : Option (List ℕ)) (refusals : List ℕ) → PassesForm functions state course later old new w wanted (bytes ++ take n piece) a b has.start has.next refusals → (wanted.strict ≡ true → refusals ≡ [])
      → SessionGoesOn functions state wanted.strict course later old new w mode (bytes ++ piece) a b pending (drop count piece)
  form_answered w mode pending bytes piece n count x own left has within taken wanted same_mode course later old new a b refusals passes accepted =
      let next = next_is functions w mode pending (bytes ++ take n piece) x own left has bytes piece n count refl within taken in
      subst (λ t. SessionGoesOn functions state wanted.strict course later old new w mode (bytes ++ piece) a b pending t) (piece_left bytes piece n has.next count next (omega arith) within)
      (answered_within wanted.strict course later old new w mode a b pending bytes piece (drop has.next (bytes ++ take n piece)) n
      (after_form functions w mode pending (bytes ++ take n piece) x own left has state wanted same_mode course later old new a b refusals passes accepted))

  -- what is pending after it
  pub pending_again : (strict : Bool) (course later : Course) (old new : StoreView D R) (w : WorldState) (mode : Mode) (text : List ℕ) (a b : Option (List ℕ)) (pending : Pending) (left : List ℕ)
      → SessionGoesOn functions state strict course later old new w mode text a b pending left → (v : WorldState) → new.world ≡ Some v → (bytes : List ℕ) × IsPending functions v mode pending bytes
  pending_again strict course later old new w mode text a b pending left goes v known =
      let same : goes.far.world ≡ v = let left_is = goes.advances.after.left in cc in
      (goes.bytes, subst (λ u. IsPending functions u mode pending goes.bytes) same goes.is_pending)

  -- ---- one after the other

  module _ (sound : (d : D) → IsHonest (state d) → IsSoundDisk (state d)) (wanted : SessionOptions) (course later last : Course) (old mid new : StoreView D R) (w : WorldState) (mode : Mode) (a b c : Option (List ℕ)) (pending : Pending)
      (honest : (state mid.disk).honest ≡ (state old.disk).honest) where
    module _ (text : List ℕ) (left : List ℕ) (first : SessionGoesOn functions state wanted.strict course later old mid w mode text a b pending left) where
      abbrev p : Progress
      p = first.far

      abbrev rest : List ℕ
      rest = first.bytes ++ left

      none_of : (refusals : List ℕ) → (wanted.strict ≡ true → refusals ≡ []) → wanted.strict ≡ true → p.refused ++ refusals ≡ []
      none_of refusals second is = ap (λ l. l ++ refusals) (first.accepted is) ∙ second is

      all_of : (forms lines : ℕ) (far answered : Progress) → (wanted.strict ≡ true → AreFormsAccepted forms lines far answered) → wanted.strict ≡ true
          → AreFormsAccepted (forms + first.forms) (lines + first.forms) (progress_onward p far) (progress_onward p answered)
      all_of forms lines far answered second is =
          (none_of answered.refused (λ strict. (second strict).0) is, λ more. none_of far.refused (λ strict. (second strict).1 (omega (arith, more))) is)

      goes_on_both : (after : Pending) (others : List ℕ) → SessionGoesOn functions state wanted.strict later last mid new p.world mode rest b c after others
          → SessionGoesOn functions state wanted.strict course last old new w mode text a c after others
      goes_on_both after others second = record {
        forms = second.forms + first.forms;
        far = progress_onward p second.far;
        advances = advance_both functions state sound old mid new w mode text a b c first.forms p first.advances honest second.forms (second.forms + first.forms) second.far refl
            (subst (λ t. Advances functions state mid new p.world mode t b c second.forms second.far) (sym first.rest) second.advances);
        paced = paces_both functions old.limit w p.world p.taken second.far.taken course.pace later.pace last.pace (fill_of state old) (fill_of state mid) (fill_of state new) first.advances.after.records first.paced
            (subst (λ n. PacesForms functions n p.world second.far.taken later.pace last.pace (fill_of state mid) (fill_of state new)) first.advances.after.limit second.paced);
        comes = record {
          forms_are = let one = first.comes.forms_are in let two = second.comes.forms_are in omega arith;
          bytes_are = let one = first.comes.bytes_are in let two = second.comes.bytes_are in let same = ap length first.rest in omega arith;
        };
        accepted = none_of second.far.refused second.accepted;
        stays = λ more. forms_onward functions second.forms first.forms (second.forms + first.forms) w mode (text ++ more) (longer p more) (longer second.far more) refl (first.stays more)
            (ap (λ t. after_forms functions second.forms p.world mode (t ++ more)) first.rest ∙ second.stays more);
        bytes = second.bytes;
        rest = second.rest;
        is_pending = second.is_pending;
      }

      -- a place in what is left is one in the text
      place_both : (forms : ℕ) (others : List ℕ) (at : ℕ) (place : Place) → IsPlace later.forms later.bytes forms p.rest others at place → IsPlace course.forms course.bytes (forms + first.forms) text others at place
      place_both forms others at place is =
          let one = first.comes.forms_are in
          let bytes = first.comes.bytes_are in record {
            forms_are = let two = is.forms_are in omega arith;
            at_is = let two = is.at_is in omega arith;
            begins = let two = is.begins in omega arith;
            ends = let two = is.ends in omega arith;
          }

      -- and the start of one
      start_both : (others : List ℕ) (from start : ℕ) → start + length others ≡ later.bytes + length p.rest + from → start + length others ≡ course.bytes + length text + from
      start_both others from start is = omega (arith, is, first.comes.bytes_are)

      stops_both : (number : ℕ) (place : Place) → StopsStrict functions state mid new p.world mode p.rest b c later.pace later.forms later.bytes number place → wanted.strict ≡ true
          → StopsStrict functions state old new w mode text a c course.pace course.forms course.bytes number place
      stops_both number place second is = record {
        forms = second.forms + first.forms;
        far = progress_onward p second.far;
        advances = advance_both functions state sound old mid new w mode text a b c first.forms p first.advances honest second.forms (second.forms + first.forms) second.far refl second.advances;
        later = second.later;
        paced = paces_both functions old.limit w p.world p.taken second.far.taken course.pace later.pace second.later (fill_of state old) (fill_of state mid) (fill_of state new) first.advances.after.records first.paced
            (subst (λ n. PacesForms functions n p.world second.far.taken later.pace second.later (fill_of state mid) (fill_of state new)) first.advances.after.limit second.paced);
        accepted = second.accepted + first.forms;
        one_more = let one = second.one_more in omega arith;
        before = progress_onward p second.before;
        before_is = forms_onward functions second.accepted first.forms (second.accepted + first.forms) w mode text p second.before refl first.advances.far_is second.before_is;
        none_refused = none_of second.before.refused (λ _. second.none_refused) is;
        start = second.start;
        refuses = second.refuses;
        is_place = place_both second.accepted second.before.rest second.start place second.is_place;
        begins = second.begins;
      }

      pub paced_both : (ending : Ending) (served : Serves functions state mid new p.world mode p.rest b c wanted.group ending) → ServesInPace functions state later.pace mid new p.world mode p.rest b c ending served
          → ServesInPace functions state course.pace old new w mode text a c ending (serve_both functions state sound old mid new w mode text a b c first.forms p first.advances honest wanted.group ending served)
      unfolding serve_both
      paced_both ending served paced =
          ends_after functions old.limit w mode p course.pace later.pace (fill_of state old) (fill_of state mid) first.advances.after.records first.paced first.forms served.forms served.far served.lines served.answered
          (fill_of state new) ending
          (subst (λ n. EndsInPace functions n p.world later.pace (fill_of state mid) mode served.forms served.far served.lines served.answered (fill_of state new) ending) first.advances.after.limit paced)

      -- a session over what is left, and the whole of it
      strict_both : (ending : Ending) → ServesStrict functions state wanted later mid new p.world mode p.rest b c ending → ServesStrict functions state wanted course old new w mode text a c ending
      unfolding serve_both
      strict_both ending (served, paced, accepted) = (
        serve_both functions state sound old mid new w mode text a b c first.forms p first.advances honest wanted.group ending served,
        paced_both ending served paced,
        all_of served.forms served.lines served.far served.answered accepted,
      )

      ends_both_at : (ended : Ended) → EndsAt functions state wanted later mid new p.world mode p.rest b c ended → EndsAt functions state wanted course old new w mode text a c ended
      unfolding serve_both strict_both
      ends_both_at ways.End second = strict_both End second
      ends_both_at (ways.Unreadable number place) (served, at) = (
        strict_both (Reader number) served,
        (at.0, at.1, place_both served.0.forms served.0.far.rest at.0 place at.2, start_both served.0.far.rest _ place.start at.3, at.4),
      )
      ends_both_at (ways.Unaccepted number place) (is, second) = (is, stops_both number place second is)
      ends_both_at (ways.Store number) (second, no_input) = (strict_both (Store number) second, no_input)

      answered_both : (forms : ℕ) (far : Progress) → StaysAnswered functions p.world mode p.rest forms far → StaysAnswered functions w mode text (forms + first.forms) (progress_onward p far)
      answered_both forms far is more = forms_onward functions forms first.forms (forms + first.forms) w mode (text ++ more) (longer p more) (longer far more) refl (first.stays more) (is more)

      refused_both : (forms : ℕ) (far : Progress) (code : ℕ) → StaysRefused functions p.world mode p.rest forms far code
          → StaysRefused functions w mode text (forms + first.forms) (progress_onward p far) code
      refused_both forms far code is = (
        is.0,
        λ more. (
          answered_both forms far (λ others. (is.1 others).0) more,
          (is.1 more).1,
        ),
      )

      serves_both : (ended : Ended) → HasEndedAt functions state wanted later mid new p.world mode p.rest b c ended → HasEndedAt functions state wanted course old new w mode text a c ended
      unfolding serve_both stops_both
      serves_both ways.End second = absurd second
      serves_both (ways.Unreadable number place) (is, accepted, at) = (
        record {
          serves = serve_both functions state sound old mid new w mode text a b c first.forms p first.advances honest wanted.group (Reader number) is.serves;
          paced = paced_both (Reader number) is.serves is.paced;
          stays = refused_both is.serves.forms is.serves.far number is.stays;
        },
        all_of is.serves.forms is.serves.lines is.serves.far is.serves.answered accepted,
        (at.0, at.1, place_both is.serves.forms is.serves.far.rest at.0 place at.2, start_both is.serves.far.rest _ place.start at.3, at.4),
      )
      serves_both (ways.Unaccepted number place) (is, second, stays) = (
        is,
        stops_both number place second is,
        (answered_both second.forms second.far stays.0, answered_both second.accepted second.before stays.1),
      )
      serves_both (ways.Store number) (is, accepted) = (
        record {
          serves = serve_both functions state sound old mid new w mode text a b c first.forms p first.advances honest wanted.group (Store number) is.serves;
          paced = paced_both (Store number) is.serves is.paced;
          stays = (
            λ output all.
                let same : is.serves.lines + first.forms ≡ is.serves.forms + first.forms = all in
                let decided = is.stays.0 output (omega arith) in
                (decided.0, refused_both is.serves.forms is.serves.far decided.0 decided.1),
            answered_both is.serves.forms is.serves.far is.stays.1,
          );
        },
        all_of is.serves.forms is.serves.lines is.serves.far is.serves.answered accepted,
      )

      pub ended_both : (ended : Ended) → HasEndedAt functions state wanted later mid new p.world mode rest b c ended → HasEndedAt functions state wanted course old new w mode text a c ended
      ended_both ended second = serves_both ended (subst (λ t. HasEndedAt functions state wanted later mid new p.world mode t b c ended) (sym first.rest) second)

    -- what was answered, and what became of what was left
    pub answers_both : (text left : List ℕ) (first : SessionGoesOn functions state wanted.strict course later old mid w mode text a b pending left) (after : Pending) (result : Option Ended)
        → AnswersPiece functions state wanted later last mid new first.far.world mode (first.bytes ++ left) b c after result → AnswersPiece functions state wanted course last old new w mode text a c after result
    unfolding extended
    answers_both text left first after None second = goes_on_both text left first after [] second
    answers_both text left first after (Some ended) second = λ more.
        ended_both (text ++ more) (left ++ more) (extended wanted.strict course later old mid w mode text a b pending left more first) ended
        (subst (λ t. HasEndedAt functions state wanted later mid new first.far.world mode t b c ended) (append_assoc first.bytes left more) (second more))

    -- what was left, and what a piece of it came to
    pub next_both : (text rest : List ℕ) (first : SessionGoesOn functions state wanted.strict course later old mid w mode text a b pending rest) (after : Pending) (result : Result ℕ Ended)
        → PieceComesTo functions state wanted later last mid new first.far.world mode (first.bytes ++ rest) b c after rest result → PieceComesTo functions state wanted course last old new w mode text a c after rest result
    next_both text rest first after (Ok count) second = goes_on_both text rest first after (drop count rest) second
    next_both text rest first after (Err ended) second = answers_both text rest first after (Some ended) second

    -- more of the text, and what it came to
    pub more_both : (text more : List ℕ) (first : SessionGoesOn functions state wanted.strict course later old mid w mode text a b pending []) (after : Pending) (result : Option Ended)
        → AnswersPiece functions state wanted later last mid new first.far.world mode (first.bytes ++ more) b c after result → AnswersPiece functions state wanted course last old new w mode (text ++ more) a c after result
    unfolding extended
    more_both text more first after result second = answers_both (text ++ more) more (extended wanted.strict course later old mid w mode text a b pending [] more first) after result second

    -- the end of the input, and what it came to
    pub end_both : (text : List ℕ) (first : SessionGoesOn functions state wanted.strict course later old mid w mode text a b pending []) (ended : Ended)
        → EndsAt functions state wanted later mid new first.far.world mode first.bytes b c ended → EndsAt functions state wanted course old new w mode text a c ended
    end_both text first ended second =
        ends_both_at text [] first ended (subst (λ t. EndsAt functions state wanted later mid new first.far.world mode t b c ended) (sym (first.rest ∙ append-nil first.bytes)) second)

  -- the session ended within a piece
  pub ended_within : (wanted : SessionOptions) (course later : Course) (old new : StoreView D R) (w : WorldState) (mode : Mode) (a b : Option (List ℕ)) (after : Pending) (bytes piece : List ℕ) (n : ℕ) (ended : Ended)
      → AnswersPiece functions state wanted course later old new w mode (bytes ++ take n piece) a b after (Some ended) → AnswersPiece functions state wanted course later old new w mode (bytes ++ piece) a b after (Some ended)
  ended_within wanted course later old new w mode a b after bytes piece n ended is more =
      subst (λ t. HasEndedAt functions state wanted course old new w mode t a b ended)
      (append_assoc bytes (take n piece) (drop n piece ++ more) ∙ ap (λ t. bytes ++ t) (sym (append_assoc (take n piece) (drop n piece) more) ∙ ap (λ t. t ++ more) (take-append-drop n piece))
      ∙ sym (append_assoc bytes piece more)) (is (drop n piece ++ more))

  -- a read failed after it
  pub unread_after : (wanted : SessionOptions) (course later : Course) (old new : StoreView D R) (w : WorldState) (mode : Mode) (text : List ℕ) (a b : Option (List ℕ)) (pending : Pending)
      → SessionGoesOn functions state wanted.strict course later old new w mode text a b pending []
      → (served : ServesStrict functions state wanted course old new w mode text a b (Store INPUT)) × StaysAnswered functions w mode text served.0.forms served.0.far
  unread_after wanted course later old new w mode text a b pending goes =
      let far : Progress = goes.far in (
        (
          record {
            forms = goes.forms;
            far = far;
            far_is = goes.advances.far_is;
            lines = goes.forms;
            answered = far;
            answered_is = goes.advances.far_is;
            at_most = omega arith;
            in_turn = λ none. omega arith;
            part = [];
            output = subst (Writes a b) (sym (append-nil far.lines)) goes.advances.lines;
            survives = goes.advances.survives;
            ends = inr (inr (inr (inr (inl (record {
              input = refl;
              all = refl;
              no_part = refl;
              more = subst (λ t. MayGoOn t (read_in functions far.world mode t)) (sym (goes.rest ∙ append-nil goes.bytes)) goes.is_pending.more;
              after = goes.advances.after;
            })))));
          },
          inl (record { paced = (later.pace, goes.paced); other = λ full. absurd (omega arith); fault = λ device. absurd (omega arith) }),
          λ strict. (goes.accepted strict, λ _. goes.accepted strict),
        ),
        goes.stays,
      )
