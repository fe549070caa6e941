-- What requests are as a turn.
use Rattle.std.specs.Prelude.{◌≡◌, ℕ, List, [], map, Result, Ok, Err}
use Rattle.gate_log.specs.Layout.{LogRecord}
use Rattle.plist_state.specs.State.{WorldState}
use Rattle.messages.specs.declared.first_requests.FirstRequests.{FirstRequests}
use Rattle.messages.specs.declared.request.Replies.{Replies}
use Rattle.messages.specs.declared.request.Request.{Request}
use Rattle.messages.specs.MessageAnswers.{Round, round_after_requests, first_round}
use Rattle.messages.specs.MessageCalls.{RefusesOwn, entries_by, left_after}
use Rattle.messages.specs.Fronts.{first_of}
use Rattle.messages.specs.Rounds.{MayBeLogged, told_in}
use Rattle.user_macros.specs.Functions.{Functions}

-- Requests have these answers, and these are the records that they need. Where no message wrote there is none, and the world is as it was.
pub record AreRequestsAnswered (functions : Functions) (world : WorldState) (round : Round) (left : WorldState) (records : List LogRecord) (replies : Replies) : Type 0 where
  pub told : map told_in replies.answers.items ≡ round.told
  pub last : replies.last ≡ round.last
  pub made : MayBeLogged functions world round
  pub left_is : left ≡ left_after round.wrote world round.left
  pub records_are : records ≡ entries_by round.wrote round.entries

module _ (functions : Functions) (turn : FirstRequests) (world : WorldState) where
  -- the requests that this turn answers: the first of its requests, up to the one with whose answer a batch ends
  abbrev pub front_requests : List Request
  front_requests = first_of functions turn.most (first_round turn.last world) turn.requests.now

  -- the round of these requests, from this world on
  abbrev pub round_of : Round
  round_of = round_after_requests functions (first_round turn.last world) front_requests

  -- what is made of them: replies, or the number with which a form of the store's own is refused
  abbrev pub MakesReplies : (left : WorldState) → List LogRecord → Result Replies ℕ → Type 0
  MakesReplies left records (Ok replies) = AreRequestsAnswered functions world round_of left records replies
  MakesReplies left records (Err number) = RefusesOwn functions (first_round turn.last world) front_requests number × (left ≡ world) × (records ≡ [])
