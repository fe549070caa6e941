-- Which requests are answered together, where the bytes of their answers end a batch.
use Rattle.std.specs.Prelude.{◌≡◌, ◌≢◌, ℕ, ◌-◌, ◌<◌, ◌≤◌, ◌==◌, nat_le, Bool, false, if◌then◌else◌, sum_by, List, [], ◌∷◌, ◌++◌, length, Option, None, Some, Result, IfOk}
use Rattle.disk_trait.specs.Disk.{State}
use Rattle.plist_state.specs.State.{WorldState}
use Rattle.prevalence_store.specs.calls.Store.{StoreView}
use Rattle.messages.specs.declared.request.Replies.{Replies}
use Rattle.messages.specs.declared.request.Request.{Request}
use Rattle.messages.specs.declared.request.TheConstants.{ANSWER_BYTES}
use Rattle.messages.specs.MessageAnswers.{Round, first_round, each_request, one_request}
use Rattle.messages.specs.MessageCalls.{AnswersRequests}
use Rattle.user_macros.specs.Functions.{Functions}

-- how many bytes the answers of a round have together
abbrev pub answer_length : Round → ℕ
answer_length round = sum_by (λ answer. length answer.0) round.told

module _ (functions : Functions) {D R : Type 0} (state : D → State) (old new : StoreView D R) (world : WorldState) where
  -- What `answer_first_requests` answers: what `answer_requests` does for the first of the requests, up to the one with whose answer
  -- the answers have so many bytes. The rest is as if it had not been asked.
  pub record AnswersFirst (last : ℕ) (requests : List Request) (result : Result Replies ℕ) : Type 0 where
    pub front : List Request
    pub rest : List Request
    pub parts : requests ≡ front ++ rest
    -- There is a rest only after answers of so many bytes: so the first request, if there is one, is among those that are answered.
    pub enough : rest ≢ [] → ANSWER_BYTES ≤ answer_length (each_request functions (first_round last world) front)
    -- and before each of them the answers had fewer
    pub needed : (before : List Request) (request : Request) (later : List Request) → front ≡ before ++ request ∷ later
        → answer_length (each_request functions (first_round last world) before) < ANSWER_BYTES
    pub answers : AnswersRequests functions state old new world last front result
    -- each of them has an answer
    pub count : IfOk result (λ replies. length replies.answers.items ≡ length front)

-- ---- by the code

-- whether the answers of a round have so many bytes; never, where no number of bytes ends a batch
abbrev pub is_full : Option ℕ → Round → Bool
is_full None round = false
is_full (Some most) round = nat_le most (answer_length round)

-- what is left of a room after so many bytes; None is a room without an end
abbrev pub room_left : Option ℕ → ℕ → Option ℕ
room_left None bytes = None
room_left (Some left) bytes = Some (left - bytes)

-- whether nothing of a room is left; never of one without an end
abbrev pub is_none_left : Option ℕ → Bool
is_none_left None = false
is_none_left (Some left) = left == 0

-- the first of these requests, up to the one with whose answer the answers have so many bytes; all of them, where none comes
-- to that
unfoldable pub first_of : Functions → Option ℕ → Round → List Request → List Request
first_of functions most round [] = []
first_of functions most round (request ∷ later) =
    request ∷ (if is_full most (one_request functions round request) then [] else first_of functions most (one_request functions round request) later)
