-- What is asked, as a turn.
use Rattle.std.specs.Prelude.{◌≡◌, ℕ, if◌then◌else◌, List, [], ◌∷◌, Option, Some, Result, Ok, Err}
use Rattle.client_table.specs.CallsByName.{KeepsAnswers, RefusesAnyOwn}
use Rattle.client_table.specs.Named.{all_answered, one_asked}
use Rattle.client_table.specs.declared.asked.AnyRequest.{AnyRequest}
use Rattle.client_table.specs.declared.turn.FirstAsked.{FirstAsked}
use Rattle.gate_log.specs.Layout.{LogRecord}
use Rattle.messages.specs.MessageAnswers.{Round, first_round}
use Rattle.messages.specs.Fronts.{is_full}
use Rattle.messages.specs.Turn.{AreRequestsAnswered}
use Rattle.messages.specs.declared.request.Replies.{Replies}
use Rattle.messages.specs.declared.request.TheConstants.{ANSWER_BYTES}
use Rattle.plist_state.specs.State.{WorldState}
use Rattle.user_macros.specs.Functions.{Functions}

-- the first of these, up to the one with whose answer the answers have so many bytes
unfoldable pub first_asked : Functions → ℕ → Option ℕ → Round → List AnyRequest → List AnyRequest
first_asked functions clients most round [] = []
first_asked functions clients most round (one ∷ later) =
    one ∷ (if is_full most (one_asked functions clients round one) then [] else first_asked functions clients most (one_asked functions clients round one) later)

module _ (functions : Functions) (turn : FirstAsked) (world : WorldState) where
  -- those that this turn answers
  abbrev pub asked_front : List AnyRequest
  asked_front = first_asked functions turn.most (Some ANSWER_BYTES) (first_round turn.last world) turn.asked.now

  -- what is made of them: replies, or the number with which a form of the store's own is refused
  abbrev pub MakesAnswers : (left : WorldState) → List LogRecord → Result Replies ℕ → Type 0
  MakesAnswers left records (Ok replies) =
      AreRequestsAnswered functions world (all_answered functions turn.most (first_round turn.last world) asked_front) left records replies
      × KeepsAnswers functions turn.most (first_round turn.last world) asked_front
  MakesAnswers left records (Err number) = RefusesAnyOwn functions turn.most (first_round turn.last world) asked_front number × (left ≡ world) × (records ≡ [])
