-- What is answered to frames one after the other, and what a session writes.
use Rattle.std.specs.Prelude.{ℕ, ◌≡◌, Bool, List, [], ◌∷◌, ◌++◌, map, Option, None, Some, fold}
use Rattle.std.specs.List.{flat_map}
use Rattle.message_frames.specs.Frames.{Sent, answer_bytes, position_bytes}
use Rattle.message_frames.specs.declared.frame.Kind.{Kind}
use Rattle.message_frames.specs.declared.frame.Kind.TheVariants.{Do, By, Ask}
use Rattle.plist_state.specs.State.{WorldState}
use Rattle.client_table.specs.Named.{by_name}
use Rattle.client_table.specs.declared.asked.AnyRequest.{AnyRequest}
use Rattle.client_table.specs.declared.asked.AnyRequest.TheVariants as asked
use Rattle.message_session.specs.declared.answer.TheConstants.{MOST_CLIENTS}
use Rattle.messages.specs.MessageAnswers.{Round, first_round, by_number}
use Rattle.user_macros.specs.Functions.{Functions}

-- the kind of the frame in which a request comes: DO with the number of a message, or ASK for a question
abbrev pub kind_by_number : Option ℕ → Kind
kind_by_number (Some number) = Do number
kind_by_number None = Ask

-- the kind and the text of the frame in which this is asked
abbrev pub frame_of_request : AnyRequest → Sent
frame_of_request (asked.Request request) = (kind_by_number request.number, request.text.now)
frame_of_request (asked.Named message) = (By message.number, message.text.now)

-- these are asked in these frames, one after the other
abbrev pub AskAlike : List AnyRequest → List Sent → Type 0
AskAlike all frames = map frame_of_request all ≡ frames

-- a round with the answer to one frame more, of this kind and text
abbrev pub by_kind : Functions → Round → Kind → List ℕ → Round
by_kind functions round (Do number) text = by_number functions round (Some number) text
by_kind functions round (By number) text = by_name functions MOST_CLIENTS number text round
by_kind functions round Ask text = by_number functions round None text

-- a round with the answer to one frame more
abbrev pub one_frame : Functions → Round → Sent → Round
one_frame functions round frame = by_kind functions round frame.0 frame.1

-- a round with the answers to these frames more, one after the other
abbrev pub each_frame : Functions → Round → List Sent → Round
each_frame functions round frames = fold (λ far frame. one_frame functions far frame) round frames

-- each answer with the kind of its frame
abbrev pub frame_of_each_answer : List Sent → List (List ℕ × Bool) → List Sent
frame_of_each_answer [] told = []
frame_of_each_answer (frame ∷ frames) [] = []
frame_of_each_answer (frame ∷ frames) (one ∷ more) = (frame.0, one.0) ∷ frame_of_each_answer frames more

-- the answers to frames in a world, after the message of this number
abbrev pub answers_to_frames : Functions → ℕ → WorldState → List Sent → List Sent
answers_to_frames functions last world frames = frame_of_each_answer frames (each_frame functions (first_round last world) frames).told

-- the answers to these frames, as they are sent
abbrev pub answered_bytes : Functions → ℕ → WorldState → List Sent → List ℕ
answered_bytes functions last world frames = flat_map answer_bytes (answers_to_frames functions last world frames)

-- What a session writes that begins in this world, with this position: the position, and the answer to each frame.
abbrev pub session_bytes : Functions → ℕ → WorldState → List Sent → List ℕ
session_bytes functions position world frames = position_bytes position ++ answered_bytes functions position world frames
