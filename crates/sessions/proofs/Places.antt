-- Places in the input.
use Rattle.std.proofs.Common.{◌≡◌, ℕ, ◌+◌, ◌-◌, ◌<◌, ◌≤◌, List, [], ◌∷◌, ◌++◌, length, drop, refl, arith, length-drop}
use Rattle.sessions.specs.declared.ending.Place.{Place}
use Rattle.sessions.specs.declared.input.Fed.{Fed}
use Rattle.sessions.specs.declared.input.Fed.TheVariants.{Nothing, Form, Refused}
use Rattle.form_reader.specs.Reader.{BeginsAt}
use Rattle.form_reader.proofs.Begun.{begins_longer, refused_begins}
use Rattle.lisp_reading.specs.Reading.{refused}
use Rattle.plist_state.specs.State.{WorldState}
use Rattle.session_words.specs.declared.mode.Mode.{Mode}
use Rattle.prevalence_store.specs.meaning.Acceptance.{read_in, setting_in}
use Rattle.sessions.specs.Serve.{IsPlace, IsRefusedFrom}
use Rattle.user_macros.specs.Functions.{Functions}
use Rattle.sessions.specs.steps.Course.{Course}
use Rattle.sessions.specs.steps.Input.{PlacesAreWithin}

-- places among some bytes are among more
pub within_more : (few many : ℕ) (given : Fed) → few ≤ many → PlacesAreWithin few given → PlacesAreWithin many given
within_more few many Nothing more within = tt
within_more few many (Form it left) more within = (within.0, let a = within.1 in omega arith)
within_more few many (Refused number start at) more within = (let a = within.0 in omega arith, let b = within.1 in omega arith)

-- the place of a refusal of the reader, before which no form was answered
pub place_at_once : (course : Course) (text : List ℕ) (start at : ℕ) (place : Place) → place.forms ≡ course.forms → place.start ≡ course.bytes + start → place.at ≡ course.bytes + at → start ≤ length text
    → IsPlace course.forms course.bytes 0 text text at place
place_at_once course text start at place forms_is start_is at_is within = record { forms_are = omega arith; at_is = omega arith; begins = omega arith; ends = omega arith }

-- ---- where what is refused begins

first_of : (bytes : List ℕ) (from : ℕ) → 0 < length bytes - from → (c : ℕ) × (cs : List ℕ) × (drop from bytes ≡ c ∷ cs)
first_of bytes from some = by_rest (drop from bytes) (omega (arith, some, length-drop from bytes)) where
  by_rest : (rest : List ℕ) → 0 < length rest → (c : ℕ) × (cs : List ℕ) × (rest ≡ c ∷ cs)
  by_rest [] some = absurd (omega (arith, some))
  by_rest (c ∷ cs) some = (c, cs, refl)

module _ (functions : Functions) (w : WorldState) (mode : Mode) where
  pub refuses_from : (bytes : List ℕ) (from number at : ℕ) → BeginsAt (setting_in functions w mode) bytes from → read_in functions w mode bytes ≡ refused number at
      → IsRefusedFrom functions w mode bytes number at from
  refuses_from bytes from number at begins reads =
      let there = refused_begins (setting_in functions w mode) bytes from number at begins reads in
      let one = first_of bytes from (omega (arith, there.0)) in
      record {
        discarded = begins.discarded;
        order = there.1;
        alone = there.2;
        first = one.0;
        others = one.1;
        parts = one.2;
        no_whitespace = begins.first one.0 one.1 one.2 (omega arith);
      }

  -- and of a text that goes on
  pub refuses_more_from : (bytes more : List ℕ) (from number at : ℕ) → BeginsAt (setting_in functions w mode) bytes from → read_in functions w mode bytes ≡ refused number at
      → read_in functions w mode (bytes ++ more) ≡ refused number at → IsRefusedFrom functions w mode (bytes ++ more) number at from
  refuses_more_from bytes more from number at begins reads longer =
      refuses_from (bytes ++ more) from number at
      (begins_longer (setting_in functions w mode) bytes more from begins (refused_begins (setting_in functions w mode) bytes from number at begins reads).0) longer
