-- What became of what is asked, as a turn: what proofs/Settling.antt of messages says of a round.
--     replies_again      their records make the world that they left, and fit the log
--     replies_logged      they were answered, or a form of the store's own was refused
--     replies_unlogged      what they needed was not logged
--     asked_unchanged      what is left of what is not answered
use Rattle.std.proofs.Common.{◌≡◌, ◌⊎◌, ℕ, List, Some, Result, Ok, Err, IfErr, refl, inl, inr}
use Rattle.std.specs.List.{AllByRecursion}
use Rattle.disk_trait.specs.Disk.{State}
use Rattle.gate_log.specs.Layout.{IsLogRecord, LogRecord}
use Rattle.plist_state.specs.State.{WorldState}
use Rattle.prevalence_store.specs.declared.failure.Unlogged.{Unlogged}
use Rattle.client_table.specs.declared.asked.AnyRequest.{AnyRequest}
use Rattle.client_table.specs.declared.turn.FirstAsked.{FirstAsked}
use Rattle.messages.specs.declared.request.Replies.{Replies}
use Rattle.prevalence_store.specs.calls.Store.{StoreView}
use Rattle.prevalence_store.specs.meaning.Acceptance.{after}
use Rattle.client_table.specs.Named.{all_answered}
use Rattle.messages.specs.MessageAnswers.{Round, first_round}
use Rattle.client_table.specs.CallsByName.{AnswersAllAsked}
use Rattle.messages.specs.MessageCalls.{FailOnDevice}
use Rattle.client_table.specs.Turn.{MakesAnswers, asked_front}
use Rattle.prevalence_store.specs.steps.Failure.{failure_number}
use Rattle.prevalence_store.specs.steps.Together.{IsTurnLogged, IsTurnNotLogged}
use Rattle.messages.proofs.Settling.{HasRecords, answered_logged, left_by, none_changed, records_again, still_or_failed}
use Rattle.user_macros.specs.Functions.{Functions}

module _ (functions : Functions) (turn : FirstAsked) (w : WorldState) where
  abbrev pub round : Round
  round = all_answered functions turn.most (first_round turn.last w) (asked_front functions turn w)

  has_records : (v : WorldState) (records : List LogRecord) (made : Result Replies ℕ) → MakesAnswers functions turn w v records made → HasRecords functions w round v records made
  has_records v records (Ok replies) is = is.0
  has_records v records (Err number) is = (is.1, is.2)

  pub replies_again : (v : WorldState) (records : List LogRecord) (made : Result Replies ℕ) → MakesAnswers functions turn w v records made
      → (after functions w records ≡ Some v) × AllByRecursion IsLogRecord records
  replies_again = records_again functions w round (MakesAnswers functions turn w) has_records

  module _ {D R : Type 0} (state : D → State) (old new : StoreView D R) where
    pub refused_unchanged : (made : Result Replies ℕ) → IsTurnLogged functions state old new w (λ left records. MakesAnswers functions turn w left records made) → IfErr made (λ number. new ≡ old)
    refused_unchanged = none_changed functions w round (MakesAnswers functions turn w) has_records state old new

    pub replies_logged : (made : Result Replies ℕ) → IsTurnLogged functions state old new w (λ left records. MakesAnswers functions turn w left records made)
        → AnswersAllAsked functions state old new w turn.most turn.last (asked_front functions turn w) made
    replies_logged (Ok replies) logged =
        (answered_logged functions w round state old new logged.left logged.records replies logged.makes.0 logged.stores, logged.makes.1)
    replies_logged (Err number) logged = inl (logged.makes.0, refused_unchanged (Err number) logged)

    pub replies_unlogged : (cause : Unlogged) → IsTurnNotLogged functions state old new w (λ left records. (made : Result Replies ℕ) × MakesAnswers functions turn w left records made) cause
        → AnswersAllAsked functions state old new w turn.most turn.last (asked_front functions turn w) (Err (failure_number cause))
    replies_unlogged cause unmade = inr (cause, refl, left_by functions w round (MakesAnswers functions turn w) has_records state old new cause unmade)

-- what is asked and not answered leaves the store as it is, or the device failed
pub asked_unchanged : (functions : Functions) {D R : Type 0} (state : D → State) (old new : StoreView D R) (w : WorldState) (most last : ℕ) (all : List AnyRequest) (number : ℕ) → AnswersAllAsked functions state old new w most last all (Err number)
    → (new ≡ old) ⊎ FailOnDevice functions state old new w (all_answered functions most (first_round last w) all)
asked_unchanged functions state old new w most last all number (inl own) = inl own.1
asked_unchanged functions state old new w most last all number (inr unlogged) = still_or_failed functions w (all_answered functions most (first_round last w) all) state old new unlogged.0 unlogged.2
