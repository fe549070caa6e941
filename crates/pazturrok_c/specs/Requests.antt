-- Messages and questions whose texts are joined, and what is told of their answers.
use Rattle.std.specs.Prelude.{ℕ, ◌-◌, if◌then◌else◌, List, [], ◌∷◌, take, drop, Option, None, Some}
use Rattle.pazturrok_c.specs.Engine.{numbered_answer}
use Rattle.pazturrok_c.specs.declared.done.RequestHead.{RequestHead}
use Rattle.messages.specs.declared.request.RequestAnswer.{RequestAnswer}
use Rattle.messages.specs.declared.request.Request.{Request}

-- a request: its number, if it is a message, and its text
abbrev pub request_in : Request → Option ℕ × List ℕ
request_in request = (request.number, request.text.now)

-- the number by a head
abbrev pub head_number : RequestHead → Option ℕ
head_number head = if head.is_question then None else Some head.number

-- From a place on, which these bytes begin at, the requests whose texts end at these places.
abbrev pub requests_in : ℕ → List ℕ → List RequestHead → List (Option ℕ × List ℕ)
requests_in start bytes [] = []
requests_in start bytes (head ∷ heads) = (head_number head, take (head.end - start) bytes) ∷ requests_in head.end (drop (head.end - start) bytes) heads

-- of an answer whether it is of a message that wrote, in place of a number, and its text
abbrev pub bytes_of_answer : RequestAnswer → List ℕ
bytes_of_answer answer = numbered_answer (if answer.wrote then 1 else 0) answer.text.items
