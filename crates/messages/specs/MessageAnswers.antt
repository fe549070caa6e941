-- What is answered to messages and questions one after the other, and what comes of them.
use Rattle.std.specs.Prelude.{ℕ, ◌==◌, nat_le, max, Bool, false, true, ◌||◌, if◌then◌else◌, List, [], ◌∷◌, ◌++◌, fold, Option, None, Some, is_some, unwrap_or, Result, Ok, Err, codes}
use Rattle.std.specs.Prelude.{decimal}
use Rattle.std.specs.Prelude.{length}
use Rattle.canon_printer.specs.Printed.{printed}
use Rattle.gate_log.specs.Layout.{LogRecord}
use Rattle.lisp_object.specs.Object.{Object}
use Rattle.lisp_object.specs.Refusal.{name_of}
use Rattle.lisp_object.specs.declared.refusal.TheConstants.{END_OF_FILE, TEXT_LEFT_OVER}
use Rattle.lisp_operators.specs.Evaluation.{Evaluation}
use Rattle.lisp_reading.specs.Reading.{ReadingResult as Reading, form, empty, refused}
use Rattle.plist_state.specs.Changes.{with_property}
use Rattle.plist_state.specs.Properties.{Symbol}
use Rattle.plist_state.specs.State.{WorldState}
use Rattle.messages.specs.declared.request.Request.{Request}
use Rattle.messages.specs.declared.request.TheConstants.{OLD_NUMBER, QUESTION_WRITES}
use Rattle.messages.specs.declared.own.Own.{Own}
use Rattle.messages.specs.declared.own.Own.TheVariants.{Clearing, Position}
use Rattle.session_words.specs.declared.mode.Mode.TheVariants.{Current, Rescue}
use Rattle.prevalence_store.specs.meaning.Acceptance.{Acceptance, accepts, accepted_record, read_in}
use Rattle.prevalence_store.specs.meaning.Forgetting.{question_in_force}
use Rattle.prevalence_store.specs.calls.ExecuteAll.{logged_entries, world_left_after, told_of}
use Rattle.messages.specs.Position.{own_left, own_text, position, position_property}
use Rattle.user_macros.specs.Functions.{Functions}

-- ---- one answer: the line that a session writes, without its newline

-- a value, as it is printed in the world after its form
abbrev pub printed_value : WorldState → Object → List ℕ
printed_value world x = printed world.packages world.current_package x

-- an exclamation mark, the number of a refusal, and its name
abbrev pub refusal_text : ℕ → List ℕ → List ℕ
refusal_text number name = codes "! " ++ decimal number ++ 32 ∷ name

-- a refusal of a form
abbrev pub refusal_answer : ℕ → List ℕ
refusal_answer number = refusal_text number (name_of number)

-- the answer to a form in the world after it: its value, or the number of its refusal
abbrev pub answer_in : WorldState → Result Object ℕ → List ℕ
answer_in world (Ok x) = printed_value world x
answer_in world (Err number) = refusal_answer number

-- the answer to a question, by what evaluation gave: one that would write is refused
abbrev pub answer_to_asked : Evaluation Object → List ℕ
answer_to_asked (Ok done) = if done.wrote then refusal_text QUESTION_WRITES (codes "QUESTION-WRITES") else printed_value done.state done.value
answer_to_asked (Err number) = refusal_answer number

-- the answer to a question whose text was read so: a text without a form is refused, and one with more after it
abbrev pub answer_by_reading : Functions → WorldState → List ℕ → Reading → List ℕ
answer_by_reading functions world text (form object start end next) =
    if next == length text then answer_to_asked (question_in_force functions.names world object) else refusal_answer TEXT_LEFT_OVER
answer_by_reading functions world text empty = refusal_answer END_OF_FILE
answer_by_reading functions world text (refused number at) = refusal_answer number

-- the answer to a text that is asked in a world. The world stays as it is.
abbrev pub answer_to_question : Functions → WorldState → List ℕ → List ℕ
answer_to_question functions world text = answer_by_reading functions world text (read_in functions world Current text)

-- ---- one after the other

-- How far requests have come: the answers, and whether each is of a message that wrote; the number of the last message; the world
-- after them, and the records that make it; and whether any message wrote.
pub record Round : Type 0 where
  pub told : List (List ℕ × Bool)
  pub last : ℕ
  pub left : WorldState
  pub entries : List LogRecord
  pub wrote : Bool

-- Before the first, after a message of this number. The position is the number of a message too, so no number up to it is carried out.
abbrev pub first_round : ℕ → WorldState → Round
first_round last world = record { told = []; last = max last (unwrap_or (position world) 0); left = world; entries = []; wrote = false }

-- a round with one answer more, of a message that wrote or not
abbrev pub with_answer : List ℕ → Bool → Round → Round
with_answer text wrote round = record round { told = round.told ++ (text, wrote) ∷ [] }

-- a round after one of the store's own forms: it has the world after the form, and its record; no answer is added
abbrev pub with_own : Own → Round → Round
with_own own round = record round { left = own_left own round.left; entries = round.entries ++ accepted_record Rescue (own_text own) ∷ [] }

-- A round whose world has no position. Where it has one, the store's own form that takes it out is carried out, and its
-- record is added.
abbrev pub without_its_position : Round → Round
without_its_position round = if is_some (position_property round.left) then with_own Clearing round else round

-- whether a text that gave this wrote
abbrev pub wrote_by : Result Acceptance ℕ → Bool
wrote_by (Ok given) = given.wrote
wrote_by (Err number) = false

-- a round with one message more of this number, by what its text gives: its answer, the world after it, and its record if it
-- wrote
abbrev pub with_given : ℕ → Result Acceptance ℕ → Round → Round
with_given number given round = record {
  told = round.told ++ (answer_in (world_left_after round.left given) (told_of given), wrote_by given) ∷ [];
  last = number;
  left = world_left_after round.left given;
  entries = round.entries ++ logged_entries Current given;
  wrote = round.wrote || wrote_by given;
}

-- A round after a form that is no message, by what it gives in Rescue. Its records are logged with those of the messages; no
-- answer is added.
abbrev pub with_form_given : Result Acceptance ℕ → Round → Round
with_form_given given round = record round { left = world_left_after round.left given; entries = round.entries ++ logged_entries Rescue given; wrote = round.wrote || wrote_by given }

-- a round after a property of a symbol was set, with the record of a form that sets it; no answer is added
abbrev pub with_set : Symbol → Symbol → Object → List ℕ → Round → Round
with_set owner indicator value text round = record round {
  left = with_property round.left owner indicator value;
  entries = round.entries ++ accepted_record Rescue text ∷ [];
  wrote = true;
}

-- a round with one message more, carried out in the world of the round as it stands
abbrev pub given_in : Functions → ℕ → List ℕ → Round → Round
given_in functions number text round = with_given number (accepts functions round.left Current text) round

-- a round with one message more: the position is taken out, and then the message is carried out
abbrev pub with_message : Functions → ℕ → List ℕ → Round → Round
with_message functions number text round = given_in functions number text (without_its_position round)

-- a round with one question more, asked in the world of the round as it stands: its answer is added, and nothing else
abbrev pub after_question : Functions → List ℕ → Round → Round
after_question functions text round = with_answer (answer_to_question functions round.left text) false round

-- a round with one question more: the position is taken out, and then the question is asked
abbrev pub with_asked : Functions → List ℕ → Round → Round
with_asked functions text round = after_question functions text (without_its_position round)

-- a round with one message more whose number is not over the last one: it is refused, and does nothing
abbrev pub with_old : Round → Round
with_old round = with_answer (refusal_text OLD_NUMBER (codes "OLD-NUMBER")) false round

-- A round with one request more, by its number. A question has none; a message is carried out if its number is over the last
-- one, and else refused.
abbrev pub by_number : Functions → Round → Option ℕ → List ℕ → Round
by_number functions round None text = with_asked functions text round
by_number functions round (Some number) text = if nat_le number round.last then with_old round else with_message functions number text round

-- a round with one request more
abbrev pub one_request : Functions → Round → Request → Round
one_request functions round request = by_number functions round request.number request.text.now

-- a round with these requests more, one after the other
abbrev pub each_request : Functions → Round → List Request → Round
each_request functions round requests = fold (λ far request. one_request functions far request) round requests

-- The end of a round: the number of the last message becomes the position, if a message wrote.
abbrev pub with_its_position : Round → Round
with_its_position round = if round.wrote then with_own (Position round.last) round else round

-- a whole round: these requests, one after the other, and then the position
abbrev pub round_after_requests : Functions → Round → List Request → Round
round_after_requests functions round requests = with_its_position (each_request functions round requests)
