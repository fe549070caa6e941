-- What a session comes to that ends at the end of its input, at what the reader refuses in it, or at a form that is refused: an input has one outcome.
use Rattle.std.proofs.Common.{◌≡◌, ◌⊎◌, ℕ, ◌≢◌, Bool, List, [], ◌∷◌, ◌++◌, Option, Some, inl, inr, refl, sym, ap, subst, ◌∙◌, append-nil}
use Rattle.disk_trait.specs.Disk.{State}
use Rattle.lisp_reading.specs.Reading.{refused}
use Rattle.plist_state.specs.State.{WorldState}
use Rattle.session_words.specs.declared.mode.Mode.{Mode}
use Rattle.sessions.specs.declared.ending.Ended.{Ended}
use Rattle.sessions.specs.declared.ending.Ended.TheVariants.{End, Unreadable, Unaccepted, Store}
use Rattle.sessions.specs.declared.ending.Ending.TheVariants as ending
use Rattle.sessions.specs.declared.ending.Place.{Place}
use Rattle.session_words.specs.declared.wanted.SessionOptions.{SessionOptions}
use Rattle.prevalence_store.specs.meaning.Acceptance.{read_in}
use Rattle.sessions.specs.FormAnswers.{Progress, after_forms, last_line, one_form}
use Rattle.sessions.specs.Serve.{HasRead, IsAfter, Serves, ServesInput, ServesWanted, StaysRefused, StaysStopped, pace_wanted}
use Rattle.prevalence_store.specs.calls.Store.{StoreView}
use Rattle.sessions.specs.Streams.{Writes}
use Rattle.store_laws.specs.Outcomes.{Completes, IsByInput, IsEndBy, StopsAtRefusal}
use Rattle.user_macros.specs.Functions.{Functions}
use Rattle.store_laws.proofs.InputForms.{one_refusal, refused_last}
pub use Rattle.store_laws.proofs.InputForms.{fewer_first, one_count}

module _ (functions : Functions) {D R : Type 0} (state : D → State) (old new : StoreView D R) (w : WorldState) where
  -- ---- a session that came to the end of its input

  -- the store knows nothing of the text that is left
  after_longer : (far : Progress) (more : List ℕ) → IsAfter functions state old new w far → IsAfter functions state old new w (record far { rest = far.rest ++ more })
  after_longer far more is = record { left = is.left; records = is.records; limit = is.limit; macros = is.macros; failures = is.failures; mixes = is.mixes; log = is.log }

  module _ (mode : Mode) (held written : Option (List ℕ)) where
    abbrev CompletesOver : List ℕ → Ended → Type 0
    CompletesOver text ended = (forms : ℕ) × (far : Progress) × Completes functions state old new w mode text held written ended forms far

    -- all forms were answered
    all_lines : (text : List ℕ) (forms lines : ℕ) (far answered : Progress) → after_forms functions forms w mode text ≡ Some far → after_forms functions lines w mode text ≡ Some answered
        → lines ≡ forms → answered ≡ far
    all_lines text forms lines far answered far_is answered_is all =
        let here : after_forms functions forms w mode text ≡ Some answered = subst (λ n. after_forms functions n w mode text ≡ Some answered) all answered_is in cc

    ended_over : (text : List ℕ) (group : Bool) → Serves functions state old new w mode text held written group ending.End → CompletesOver text End
    ended_over text group served =
        let far = served.far in
        let same = all_lines text served.forms served.lines far served.answered served.far_is served.answered_is served.ends.all in
        let nothing = served.ends.nothing_left in (
          served.forms,
          far,
          record {
            all = record { far_is = served.far_is; no_more = ap (one_form functions far.world mode far.rest) nothing };
            ends = subst (λ r. IsEndBy r End) (sym nothing) refl;
            output = subst (Writes held written)
                (ap (λ (p : Progress). p.lines ++ served.part) same ∙ ap (λ l. far.lines ++ l) (served.ends.no_part ∙ ap last_line (sym nothing))) served.output;
            after = served.ends.after;
          },
        )

    -- the reader refused what is left, of this text or of one that goes on
    refused_over : (text over : List ℕ) (group : Bool) (number : ℕ) (place : Place) (served : Serves functions state old new w mode text held written group (ending.Reader number)) (rest : List ℕ)
        → after_forms functions served.forms w mode over ≡ Some (record served.far { rest = rest }) → (at : ℕ) → read_in functions served.far.world mode rest ≡ refused number at
        → CompletesOver over (Unreadable number place)
    refused_over text over group number place served rest far_is at is =
        let far = served.far in
        let same = all_lines text served.forms served.lines far served.answered served.far_is served.answered_is served.ends.all in
        let after_it = served.ends.after in (
          served.forms,
          record far { rest = rest },
          record {
            all = record { far_is = far_is; no_more = ap (one_form functions far.world mode rest) is };
            ends = subst (λ r. IsEndBy r (Unreadable number place)) (sym is) refl;
            output = subst (Writes held written)
                (ap (λ (p : Progress). p.lines ++ served.part) same ∙ ap (λ l. far.lines ++ l) (served.ends.line ∙ ap last_line (sym is))) served.output;
            after = record { left = after_it.left; records = after_it.records; limit = after_it.limit; macros = after_it.macros; failures = after_it.failures; mixes = after_it.mixes; log = after_it.log };
          },
        )

  -- all of the input was read
  all_read : (input text left : List ℕ) → input ≡ text ++ left → left ≡ [] → text ≡ input
  all_read input text left is none = sym (is ∙ ap (λ l. text ++ l) none ∙ append-nil text)

  module _ (wanted : SessionOptions) (input : List ℕ) (has held written : Option (List ℕ)) where
    pub completed : (ended : Ended) → ServesWanted functions state wanted old new w (Some input) has held written ended → IsByInput ended → CompletesOver wanted.mode held written input ended
    completed End wants by_input =
        let over = wants.0 in
        let read = over.reads input refl in
        subst (λ text. CompletesOver wanted.mode held written text End) (all_read input over.text read.0 read.1 read.2.0) (ended_over wanted.mode held written over.text wanted.group over.serves)
    completed (Unreadable number place) wants by_input = by_rest read.2.0 where
      over : ServesInput functions state wanted.group (pace_wanted wanted) old new w wanted.mode (Some input) has held written (ending.Reader number)
      over = wants.0

      read : (left : List ℕ) × (input ≡ over.text ++ left) × HasRead functions state old new w wanted.mode over.text held written (ending.Reader number) over.serves left has
      read = over.reads input refl

      by_rest : (read.0 ≡ []) ⊎ StaysRefused functions w wanted.mode over.text over.serves.forms over.serves.far number → CompletesOver wanted.mode held written input (Unreadable number place)
      by_rest (inl none) =
          subst (λ text. CompletesOver wanted.mode held written text (Unreadable number place)) (all_read input over.text read.0 read.1 none)
          (refused_over wanted.mode held written over.text over.text wanted.group number place over.serves over.serves.far.rest over.serves.far_is over.serves.ends.at over.serves.ends.reads)
      by_rest (inr stays) =
          let here = stays.1 read.0 in
          subst (λ text. CompletesOver wanted.mode held written text (Unreadable number place)) (sym read.1)
          (refused_over wanted.mode held written over.text (over.text ++ read.0) wanted.group number place over.serves (over.serves.far.rest ++ read.0) here.0 stays.0 here.1)
    completed (Unaccepted number place) wants by_input = absurd by_input
    completed (Store number) wants by_input = absurd by_input

  -- ---- a strict session that ended at a refused form

  abbrev StopsOver : Mode → (held written : Option (List ℕ)) → List ℕ → Type 0
  StopsOver mode held written text = (forms : ℕ) × (far : Progress) × StopsAtRefusal functions state old new w mode text held written forms far

  some_refused : (before : List ℕ) (number : ℕ) (refusals : List ℕ) → refusals ≡ before ++ number ∷ [] → refusals ≢ []
  some_refused [] number refusals is none = absurd (cc)
  some_refused (x ∷ xs) number refusals is none = absurd (cc)

  module _ (wanted : SessionOptions) (input : List ℕ) (has held written : Option (List ℕ)) where
    pub stopped : (number : ℕ) (place : Place) → ServesWanted functions state wanted old new w (Some input) has held written (Unaccepted number place) → StopsOver wanted.mode held written input
    stopped number place (strict, text, stops, reads, stays) = by_rest (stays input refl) where
      last_refused : stops.far.refused ≢ []
      last_refused = some_refused stops.before.refused number stops.far.refused
          (refused_last functions w wanted.mode text stops.forms stops.accepted stops.far stops.before number stops.start stops.one_more stops.advances.far_is stops.before_is stops.refuses)

      read : (left : List ℕ) × (input ≡ text ++ left) × (has ≡ Some left)
      read = reads input refl

      by_rest : (input ≡ text) ⊎ StaysStopped functions state old new w wanted.mode text held written (pace_wanted wanted) 0 0 number place stops → StopsOver wanted.mode held written input
      by_rest (inl same) = subst (StopsOver wanted.mode held written) (sym same) (
        stops.forms,
        stops.far,
        record {
          first = record {
            far_is = stops.advances.far_is;
            refused = last_refused;
            accepted = stops.accepted;
            one_more = stops.one_more;
            before = stops.before;
            before_is = stops.before_is;
            none_refused = stops.none_refused;
          };
          output = stops.advances.lines;
          after = stops.advances.after;
        },
      )
      by_rest (inr still) = subst (StopsOver wanted.mode held written) (sym read.1) (
        stops.forms,
        record stops.far { rest = stops.far.rest ++ read.0 },
        record {
          first = record {
            far_is = still.0 read.0;
            refused = last_refused;
            accepted = stops.accepted;
            one_more = stops.one_more;
            before = record stops.before { rest = stops.before.rest ++ read.0 };
            before_is = still.1 read.0;
            none_refused = stops.none_refused;
          };
          output = stops.advances.lines;
          after = after_longer stops.far read.0 stops.advances.after;
        },
      )

-- two sessions that came to the end of the same input
pub both_complete : (functions : Functions) {D R E S : Type 0} (state : D → State) (other_state : E → State) (old new : StoreView D R) (before later : StoreView E S) (w : WorldState) (mode other_mode : Mode)
    (input : List ℕ) (held written others_held others_written : Option (List ℕ)) (ended others_ended : Ended) → other_mode ≡ mode
    → (forms : ℕ) × (far : Progress) × Completes functions state old new w mode input held written ended forms far
    → (forms : ℕ) × (far : Progress) × Completes functions other_state before later w other_mode input others_held others_written others_ended forms far
    → (forms : ℕ) × (far : Progress) × Completes functions state old new w mode input held written ended forms far
    × Completes functions other_state before later w mode input others_held others_written others_ended forms far
both_complete functions state other_state old new before later w mode other_mode input held written others_held others_written ended others_ended same one other =
    let moved = subst (λ m. Completes functions other_state before later w m input others_held others_written others_ended other.0 other.1) same other.2 in
    let equal = one_count functions w mode input other.0 one.0 other.1 one.1 moved.all one.2.all in (
      one.0,
      one.1,
      one.2,
      subst (λ n. Completes functions other_state before later w mode input others_held others_written others_ended n one.1) equal.0
          (subst (λ p. Completes functions other_state before later w mode input others_held others_written others_ended other.0 p) equal.1 moved),
    )

-- two strict sessions that ended at a refused form of the same input
pub both_stop : (functions : Functions) {D R E S : Type 0} (state : D → State) (other_state : E → State) (old new : StoreView D R) (before later : StoreView E S) (w : WorldState) (mode other_mode : Mode)
    (input : List ℕ) (held written others_held others_written : Option (List ℕ)) → other_mode ≡ mode
    → (forms : ℕ) × (far : Progress) × StopsAtRefusal functions state old new w mode input held written forms far
    → (forms : ℕ) × (far : Progress) × StopsAtRefusal functions other_state before later w other_mode input others_held others_written forms far
    → (forms : ℕ) × (far : Progress) × StopsAtRefusal functions state old new w mode input held written forms far
    × StopsAtRefusal functions other_state before later w mode input others_held others_written forms far
both_stop functions state other_state old new before later w mode other_mode input held written others_held others_written same one other =
    let moved = subst (λ m. StopsAtRefusal functions other_state before later w m input others_held others_written other.0 other.1) same other.2 in
    let equal = one_refusal functions w mode input other.0 one.0 other.1 one.1 moved.first one.2.first in (
      one.0,
      one.1,
      one.2,
      subst (λ n. StopsAtRefusal functions other_state before later w mode input others_held others_written n one.1) equal.0
          (subst (λ p. StopsAtRefusal functions other_state before later w mode input others_held others_written other.0 p) equal.1 moved),
    )
