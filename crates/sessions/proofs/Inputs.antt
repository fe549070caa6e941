-- What a session has read of its input.
use Rattle.std.proofs.Common.{◌≡◌, ℕ, List, [], ◌++◌, Option, None, Some, refl, sym, ap, ◌∙◌, inl, inr, append_assoc, arith, append-nil}
use Rattle.std.specs.Io.KnownBytes.{Consumes, IsAtEnd, Keeps}
use Rattle.disk_trait.specs.Disk.{State}
use Rattle.lisp_object.specs.declared.refusal.TheConstants.{INPUT}
use Rattle.plist_state.specs.State.{WorldState}
use Rattle.sessions.specs.declared.ending.Ended.{Ended}
use Rattle.sessions.specs.declared.ending.Ended.TheVariants as ways
use Rattle.session_words.specs.declared.wanted.SessionOptions.{SessionOptions}
use Rattle.sessions.specs.declared.ending.Ending.TheVariants.{Store}
use Rattle.user_macros.specs.Functions.{Functions}
use Rattle.sessions.specs.Serve.{ServesWanted, StaysAnswered, pace_wanted}
use Rattle.prevalence_store.specs.calls.Store.{StoreView}
use Rattle.sessions.specs.steps.Course.{Course, first_course}
use Rattle.sessions.specs.steps.Serve.{EndsAt, HasEndedAt, ServesStrict}

-- what a reader had, is this text and what it has
abbrev pub HasLeft : Option (List ℕ) → Option (List ℕ) → List ℕ → Type 0
HasLeft had has text = (all : List ℕ) → had ≡ Some all → (left : List ℕ) × ((has ≡ Some left) × (all ≡ text ++ left))

consumed : (old new : Option (List ℕ)) (left piece : List ℕ) → old ≡ Some left → Consumes old new piece → (rest : List ℕ) × ((new ≡ Some rest) × (left ≡ piece ++ rest))
consumed None new left piece is took = absurd (cc)
consumed (Some xs) None left piece is took = absurd took
consumed (Some xs) (Some ys) left piece is took = let same : xs ≡ left = cc in (ys, (refl, sym same ∙ took))

kept : (old new : Option (List ℕ)) (left : List ℕ) → old ≡ Some left → Keeps old new → new ≡ Some left
kept None new left is keeps = absurd (cc)
kept (Some xs) None left is keeps = absurd keeps
kept (Some xs) (Some ys) left is keeps = let same : xs ≡ left = cc in ap (λ t. Some t) (keeps ∙ same)

pub keeps_same : (has : Option (List ℕ)) → Keeps has has
keeps_same None = tt
keeps_same (Some xs) = refl

pub consumes_none : (has : Option (List ℕ)) → Consumes has has []
consumes_none None = tt
consumes_none (Some xs) = refl

at_end : (new : Option (List ℕ)) (rest : List ℕ) → new ≡ Some rest → IsAtEnd new → rest ≡ []
at_end None rest is ends = absurd (cc)
at_end (Some ys) rest is ends = let same : ys ≡ rest = cc in sym same ∙ ends

-- a piece more was read
pub left_both : (had old new : Option (List ℕ)) (text piece : List ℕ) → HasLeft had old text → Consumes old new piece → HasLeft had new (text ++ piece)
left_both had old new text piece before took all is =
    let first = before all is in
    let then = consumed old new first.0 piece first.1.0 took in
    (then.0, (then.1.0, first.1.1 ∙ ap (λ t. text ++ t) then.1.1 ∙ sym (append_assoc text piece then.0)))

module _ (functions : Functions) {D R : Type 0} (state : D → State) (wanted : SessionOptions) (old new : StoreView D R) (w : WorldState) (held written : Option (List ℕ)) (had before has : Option (List ℕ)) (text : List ℕ) where
  abbrev first : Course
  first = first_course (pace_wanted wanted)

  -- a read failed
  pub unread_input : (served : ServesStrict functions state wanted first old new w wanted.mode text held written (Store INPUT)) × StaysAnswered functions w wanted.mode text served.0.forms served.0.far
      → HasLeft had before text → Keeps before has → ServesWanted functions state wanted old new w had has held written (ways.Store INPUT)
  unread_input ((served, paced, accepted), stays) left keeps = (
    record {
      text = text;
      serves = served;
      paced = paced;
      reads = λ all is. let one = left all is in (one.0, one.1.1, (λ output. absurd (omega arith), kept before has one.0 one.1.0 keeps, inl stays));
    },
    accepted,
  )

  -- nothing is left of what the reader had
  pub none_left : HasLeft had before text → Consumes before has [] → IsAtEnd has → (all : List ℕ) → had ≡ Some all → (all ≡ text ++ []) × (has ≡ Some [])
  none_left left took ends all is =
      let one = left all is in
      let then = consumed before has one.0 [] one.1.0 took in
      let none = at_end has then.0 then.1.0 ends in
      (one.1.1 ∙ ap (λ t. text ++ t) (then.1.1 ∙ none), then.1.0 ∙ ap (λ t. Some t) none)

  -- the input is at its end
  pub ended_input : (ended : Ended) → EndsAt functions state wanted first old new w wanted.mode text held written ended → HasLeft had before text → Consumes before has [] → IsAtEnd has
      → ServesWanted functions state wanted old new w had has held written ended
  ended_input ended at left took ends = by_ending ended at where
    by_ending : (e : Ended) → EndsAt functions state wanted first old new w wanted.mode text held written e → ServesWanted functions state wanted old new w had has held written e
    by_ending ways.End (served, paced, accepted) = (
      record { text = text; serves = served; paced = paced; reads = λ all is. let none = none_left left took ends all is in ([], none.0, (refl, none.1)) },
      accepted,
    )
    by_ending (ways.Unreadable number place) ((served, paced, accepted), at) = (
      record { text = text; serves = served; paced = paced; reads = λ all is. let none = none_left left took ends all is in ([], none.0, (inl refl, none.1)) },
      accepted,
      at,
    )
    by_ending (ways.Unaccepted number place) (strict, stops) =
        (strict, text, stops, λ all is. let none = none_left left took ends all is in ([], none.0, none.1), λ all is. inl ((none_left left took ends all is).0 ∙ append-nil text))
    by_ending (ways.Store number) ((served, paced, accepted), no_input) = (
      record { text = text; serves = served; paced = paced; reads = λ all is. let none = none_left left took ends all is in ([], none.0, (λ output all_lines. inl refl, none.1, inr (refl, no_input))) },
      accepted,
    )

  -- the session ended before it
  pub decided_input : (ended : Ended) → HasEndedAt functions state wanted first old new w wanted.mode text held written ended → HasLeft had has text
      → ServesWanted functions state wanted old new w had has held written ended
  decided_input ways.End is left = absurd is
  decided_input (ways.Unreadable number place) (is, accepted, at) left = (
    record {
      text = text;
      serves = is.serves;
      paced = is.paced;
      reads = λ all had_is. let one = left all had_is in (one.0, one.1.1, (inr is.stays, one.1.0));
    },
    accepted,
    at,
  )
  decided_input (ways.Unaccepted number place) (strict, stops, stays) left = (strict, text, stops, λ all is. let one = left all is in (one.0, one.1.1, one.1.0), λ all is. inr stays)
  decided_input (ways.Store number) (is, accepted) left = (
    record {
      text = text;
      serves = is.serves;
      paced = is.paced;
      reads = λ all had_is. let one = left all had_is in (one.0, one.1.1, (λ output all_lines. inr (is.stays.0 output all_lines), one.1.0, inl is.stays.1));
    },
    accepted,
  )
