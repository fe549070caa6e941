-- What the calls of the engine on messages answer, by what the calls of its store gave.
use Rattle.std.specs.Prelude.{◌≡◌, ◌⊎◌, ℕ, List, map, None, Some, Result, Ok, Err, MatchResult}
use Rattle.std.specs.List.{flat_map}
use Rattle.deferred_disk.specs.Disk.{state_by_calls}
use Rattle.deferred_disk.specs.declared.disk.DeferredDisk.{DeferredDisk}
use Rattle.lisp_object.specs.declared.refusal.TheConstants.{NO_MEMORY, REOPEN}
use Rattle.pazturrok_c.specs.Requests.{bytes_of_answer, request_in, requests_in}
use Rattle.pazturrok_c.specs.declared.done.RequestHead.{RequestHead}
use Rattle.plist_state.specs.State.{WorldState}
use Rattle.prevalence_store.specs.calls.Store.{StoreView}
use Rattle.messages.specs.declared.request.Replies.{Replies}
use Rattle.messages.specs.declared.request.Request.{Request}
use Rattle.messages.specs.MessageCalls.{AnswersRequests, BeginsMessages}
use Rattle.six_functions.specs.MacroFunctions.{six_functions}

-- The number of a call with requests, and the bytes that tell each reply. Where there is no room for those the number is 90.
abbrev pub AreRepliesTold : Replies → ℕ → List ℕ → Type 0
AreRepliesTold replies number answers = ((number ≡ 0) × (answers ≡ flat_map bytes_of_answer replies.answers.items)) ⊎ (number ≡ NO_MEMORY)

-- what is told of what the store gave: replies, or the number of a refusal
abbrev pub IsReplyOrRefusalTold : Result Replies ℕ → ℕ → List ℕ → Type 0
IsReplyOrRefusalTold (Ok replies) number answers = AreRepliesTold replies number answers
IsReplyOrRefusalTold (Err refusal) number answers = number ≡ refusal

module _ {R : Type 0} (old new : StoreView DeferredDisk R) where
  -- the store began with messages, and this is its position
  pub record EngineBeginsMessages (number position : ℕ) : Type 0 where
    pub given : Result ℕ ℕ
    pub reopen : old.world ≡ None → (given ≡ Err REOPEN) × (new ≡ old)
    pub begins : (world : WorldState) → old.world ≡ Some world → BeginsMessages six_functions state_by_calls old new world given
    pub tells : MatchResult given (λ found. (number ≡ 0) × (position ≡ found)) (λ refusal. number ≡ refusal)

  -- the store answered the requests whose texts end at these places, after the message of the last number
  pub record AnswersOf (last : ℕ) (bytes : List ℕ) (heads : List RequestHead) (number : ℕ) (answers : List ℕ) : Type 0 where
    pub requests : List Request
    pub are : map request_in requests ≡ requests_in 0 bytes heads
    pub given : Result Replies ℕ
    pub reopen : old.world ≡ None → (given ≡ Err REOPEN) × (new ≡ old)
    pub answers_are : (world : WorldState) → old.world ≡ Some world → AnswersRequests six_functions state_by_calls old new world last requests given
    pub tells : IsReplyOrRefusalTold given number answers

  -- where there is no room for the requests the number is 90, and nothing changes
  abbrev pub AnswersAll : ℕ → List ℕ → List RequestHead → ℕ → List ℕ → Type 0
  AnswersAll last bytes heads number answers = AnswersOf last bytes heads number answers ⊎ ((number ≡ NO_MEMORY) × (new ≡ old))
