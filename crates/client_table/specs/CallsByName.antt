-- What the call of a store with a table of clients answers, and what stands after it.
use Rattle.std.specs.Prelude.{◌≡◌, ◌≢◌, ◌⊎◌, ℕ, ◌<◌, ◌≤◌, Bool, List, [], ◌∷◌, ◌++◌, length, Option, None, Some, IsSome, Result, IfOk, Ok, Err}
use Rattle.client_table.specs.Entries.{admission_text, entry, entry_property, kept_message}
use Rattle.client_table.specs.Named.{all_answered, each_asked, one_asked, without_client}
use Rattle.client_table.specs.Names.{form_in, client_name_in}
use Rattle.client_table.specs.declared.asked.AnyRequest.{AnyRequest}
use Rattle.client_table.specs.declared.asked.AnyRequest.TheVariants as asked
use Rattle.client_table.specs.declared.asked.Named.{Named}
use Rattle.client_table.specs.declared.asked.TheConstants.{NO_ENTRY}
use Rattle.disk_trait.specs.Disk.{State}
use Rattle.messages.specs.MessageAnswers.{Round, first_round, without_its_position}
use Rattle.messages.specs.MessageCalls.{AreAnsweredAndLogged, AreNotAnswered, IsNotCleared, IsNotClosed, RefusesRequest}
use Rattle.messages.specs.Fronts.{answer_length}
use Rattle.messages.specs.declared.request.Replies.{Replies}
use Rattle.messages.specs.declared.request.TheConstants.{ANSWER_BYTES}
use Rattle.plist_state.specs.State.{WorldState}
use Rattle.prevalence_store.specs.calls.Store.{StoreView}
use Rattle.prevalence_store.specs.declared.failure.Unlogged.{Unlogged}
use Rattle.prevalence_store.specs.meaning.Acceptance.{Acceptance, accepts}
use Rattle.session_words.specs.declared.mode.Mode.TheVariants.{Rescue}
use Rattle.prevalence_store.specs.steps.Failure.{failure_number}
use Rattle.user_macros.specs.Functions.{Functions}

-- ---- one message with a name

-- the answer to this message, the last one that was given, stands in the entry of its client, beside its number and its form
abbrev pub HasAnswer : ℕ → List ℕ → List ℕ → Round → Round → Type 0
HasAnswer number name form round after =
    (answer : List ℕ) × (wrote : Bool) × (after.told ≡ round.told ++ (answer, wrote) ∷ []) × (entry after.left name ≡ Some (number, kept_message form answer))

-- After a message nothing has changed; or the answer to its form is kept; or its client has gone.
abbrev pub KeepsAnswerAt : ℕ → List ℕ → Option (List ℕ) → Round → Round → Type 0
KeepsAnswerAt number name None round after = (after.left ≡ round.left) ⊎ (entry_property after.left name ≡ None)
KeepsAnswerAt number name (Some form) round after = (after.left ≡ round.left) ⊎ HasAnswer number name form round after

-- what a message with a name keeps, in a world from which the position was taken out
abbrev pub KeepsAnswer : Round → Named → Round → Type 0
KeepsAnswer round message after = KeepsAnswerAt message.number (client_name_in message.text.now) (form_in message.text.now) (without_its_position round) after

-- what one request keeps: of one without a name nothing is said
abbrev pub KeepsRequest : Round → AnyRequest → Round → Type 0
KeepsRequest round (asked.Request request) after = Unit {0}
KeepsRequest round (asked.Named message) after = KeepsAnswer round message after

-- what each of these keeps, one after the other
unfoldable pub KeepsAnswers : Functions → ℕ → Round → List AnyRequest → Type 0
KeepsAnswers functions most round [] = Unit {0}
KeepsAnswers functions most round (one ∷ later) =
    KeepsRequest round one (one_asked functions most round one) × KeepsAnswers functions most (one_asked functions most round one) later

-- ---- why they are not answered

-- The store's own form that admits the client is accepted, and leaves no entry; or that of a client which goes leaves it there.
abbrev pub IsAmissAt : Functions → List ℕ → Option (List ℕ) → Round → Type 0
IsAmissAt functions name None round = IsSome (entry_property (without_client functions name round).left name)
IsAmissAt functions name (Some form) round =
    (given : Acceptance) × (accepts functions round.left Rescue (admission_text round.left name) ≡ Ok given) × (entry_property given.world name ≡ None)

-- The form that takes the position out is refused with this number. Or with 48 the table is not as a form of the store's own should leave it.
abbrev pub RefusesNamed : Functions → ℕ → Round → Named → ℕ → Type 0
RefusesNamed functions most round message number =
    IsNotCleared functions round number
    ⊎ ((number ≡ NO_ENTRY) × IsAmissAt functions (client_name_in message.text.now) (form_in message.text.now) (without_its_position round))

-- why the store's own form before one request is refused with this number
abbrev pub RefusesAsked : Functions → ℕ → Round → AnyRequest → ℕ → Type 0
RefusesAsked functions most round (asked.Request request) number = RefusesRequest functions round request number
RefusesAsked functions most round (asked.Named message) number = RefusesNamed functions most round message number

-- a form of the store's own is refused with this number: before one of these requests, or as the position is set after all
-- of them
abbrev pub RefusesAnyOwn : Functions → ℕ → Round → List AnyRequest → ℕ → Type 0
RefusesAnyOwn functions most first all number =
    ((before : List AnyRequest) × (one : AnyRequest) × (later : List AnyRequest) × (all ≡ before ++ one ∷ later)
    × RefusesAsked functions most (each_asked functions most first before) one number)
    ⊎ IsNotClosed functions (each_asked functions most first all) number

-- ---- the call

module _ (functions : Functions) {D R : Type 0} (state : D → State) (old new : StoreView D R) (world : WorldState) (most : ℕ) (last : ℕ) where
  -- All have these answers, and what they need was logged together, with the position. Each answer of a message with a name
  -- is in the table. Or they are not answered, and this is why.
  abbrev pub AnswersAllAsked : List AnyRequest → Result Replies ℕ → Type 0
  AnswersAllAsked all (Ok replies) =
      AreAnsweredAndLogged functions state old new world (all_answered functions most (first_round last world) all) replies
      × KeepsAnswers functions most (first_round last world) all
  AnswersAllAsked all (Err number) =
      (RefusesAnyOwn functions most (first_round last world) all number × (new ≡ old))
      ⊎ ((cause : Unlogged) × (number ≡ failure_number cause) × AreNotAnswered functions state old new world (all_answered functions most (first_round last world) all) cause)

  -- The first of these are answered, up to the one with whose answer the answers have so many bytes. The rest is as if it
  -- had not been asked.
  pub record AnswersFirstAsked (all : List AnyRequest) (result : Result Replies ℕ) : Type 0 where
    pub front : List AnyRequest
    pub rest : List AnyRequest
    pub parts : all ≡ front ++ rest
    pub enough : rest ≢ [] → ANSWER_BYTES ≤ answer_length (each_asked functions most (first_round last world) front)
    pub needed : (before : List AnyRequest) (one : AnyRequest) (later : List AnyRequest) → front ≡ before ++ one ∷ later
        → answer_length (each_asked functions most (first_round last world) before) < ANSWER_BYTES
    pub answers : AnswersAllAsked front result
    pub count : IfOk result (λ replies. length replies.answers.items ≡ length front)
