-- What became of a round as a turn, whatever its requests are, and of a turn that is requests.
--     answered_again      the records that a round needs make the world that it left, and fit the log
--     replied_written, replied_silent      what is made of a round that is held in memory
--     answered_logged      a round was logged
--     still_or_failed      what is left where it was not
--     records_again, none_changed, left_by      what a turn made of it makes again; that it changed nothing; why it was not logged
--     replies_again, refused_unchanged, replies_logged, replies_unlogged      what these say of requests
--     unchanged_or_failed      what is left of requests that are not answered
use Rattle.std.proofs.Common.{◌≡◌, ◌⊎◌, ℕ, ◌+◌, ◌<◌, Bool, true, false, List, [], length, map, Some, Result, Ok, Err, IfErr, refl, sym, ap, subst, ◌∙◌, inl, inr, arith}
use Rattle.std.specs.Global.{Vec}
use Rattle.std.specs.List.{AllByRecursion}
use Rattle.disk_trait.specs.Disk.{State}
use Rattle.gate_log.specs.Layout.{IsLogRecord, LogRecord, batch_size}
use Rattle.plist_state.specs.State.{WorldState}
use Rattle.prevalence_store.specs.declared.batch.Batch.{Batch}
use Rattle.prevalence_store.specs.declared.failure.Unlogged.{Unlogged}
use Rattle.prevalence_store.specs.declared.failure.Unlogged.TheVariants.{DeviceFault, Full, OutOfMemory}
use Rattle.messages.specs.declared.first_requests.FirstRequests.{FirstRequests}
use Rattle.messages.specs.declared.request.RequestAnswer.{RequestAnswer}
use Rattle.messages.specs.declared.request.Replies.{Replies}
use Rattle.messages.specs.declared.request.Request.{Request}
use Rattle.messages.specs.declared.round.Round.{Round as Held}
use Rattle.prevalence_store.specs.calls.Store.{StoreView}
use Rattle.prevalence_store.specs.meaning.Acceptance.{after}
use Rattle.messages.specs.MessageAnswers.{Round, round_after_requests, first_round}
use Rattle.messages.specs.MessageCalls.{AnswersRequests, AreAnsweredAndLogged, AreNotAnswered, FailOnDevice, entries_by, left_after}
use Rattle.messages.specs.Rounds.{MayBeLogged as IsMadeBy, round_in, told_in}
use Rattle.messages.specs.Turn.{AreRequestsAnswered, MakesReplies, front_requests, round_of}
use Rattle.prevalence_store.specs.steps.Batch.{FailsBatch, IsEmpty, StoresBatch, entries_in, entries_of}
use Rattle.prevalence_store.specs.steps.Failure.{failure_number, is_unlogged_by_device}
use Rattle.prevalence_store.specs.steps.Together.{IsTurnLogged, IsTurnNotLogged}
use Rattle.user_macros.specs.Functions.{Functions}

module _ (functions : Functions) (w : WorldState) (round : Round) where
  -- ---- before it is logged

  by_wrote : (b : Bool) → after functions w round.entries ≡ Some round.left → AllByRecursion IsLogRecord round.entries
      → (after functions w (entries_by b round.entries) ≡ Some (left_after b w round.left)) × AllByRecursion IsLogRecord (entries_by b round.entries)
  by_wrote true again fit = (again, fit)
  by_wrote false again fit = (refl, tt)

  pub answered_again : (v : WorldState) (records : List LogRecord) (replies : Replies) → AreRequestsAnswered functions w round v records replies
      → (after functions w records ≡ Some v) × AllByRecursion IsLogRecord records
  answered_again v records replies is =
      let of = by_wrote round.wrote is.made.again is.made.fit in (
        ap (after functions w) is.records_are ∙ of.0 ∙ ap (λ s. Some s) (sym is.left_is),
        subst (λ (es : List LogRecord). AllByRecursion IsLogRecord es) (sym is.records_are) of.1,
      )

  -- ---- as it is held in memory, where so many requests were answered

  module _ (held : Held) (v : WorldState) (turned : round_in held v ≡ round) (made : IsMadeBy functions w (round_in held v)) (replies : Replies) (answers : replies.answers ≡ held.answers) (last : replies.last ≡ held.last) (batch : Batch) where
    -- a message wrote
    pub replied_written : held.wrote ≡ true → batch ≡ held.batch → AreRequestsAnswered functions w round v (entries_in batch) replies
    replied_written wrote same =
        subst (λ (r : Round). AreRequestsAnswered functions w r v (entries_in batch) replies) turned (record {
          told = ap (λ (a : Vec RequestAnswer). map told_in a.items) answers;
          last = last;
          made = made;
          left_is = sym (ap (λ b. left_after b w v) wrote);
          records_are = ap entries_in same ∙ sym (ap (λ b. entries_by b (entries_in held.batch)) wrote);
        })

    -- none did
    pub replied_silent : (left : WorldState) → held.wrote ≡ false → left ≡ w → IsEmpty batch → AreRequestsAnswered functions w round left (entries_in batch) replies
    replied_silent left wrote back none =
        subst (λ (r : Round). AreRequestsAnswered functions w r left (entries_in batch) replies) turned (record {
          told = ap (λ (a : Vec RequestAnswer). map told_in a.items) answers;
          last = last;
          made = made;
          left_is = back ∙ sym (ap (λ b. left_after b w v) wrote);
          records_are = ap entries_of none ∙ sym (ap (λ b. entries_by b (entries_in held.batch)) wrote);
        })

  -- ---- it was logged, or it was not

  -- what it needs in the log
  abbrev needed : List LogRecord
  needed = entries_by round.wrote round.entries

  module _ {D R : Type 0} (state : D → State) (old new : StoreView D R) where
    pub answered_logged : (left : WorldState) (records : List LogRecord) (replies : Replies) → AreRequestsAnswered functions w round left records replies → StoresBatch functions state old new w left records
        → AreAnsweredAndLogged functions state old new w round replies
    answered_logged left records replies is stored =
        let stores : StoresBatch functions state old new w (left_after round.wrote w round.left) needed =
        subst (λ (v : WorldState). StoresBatch functions state old new w v needed) is.left_is
        (subst (λ (es : List LogRecord). StoresBatch functions state old new w left es) is.records_are stored) in
        record { told = is.told; last = is.last; logs = stores.logs; survives = stores.survives; all_or_none = stores.all_or_none }

    by_device : (cause : Unlogged) (failed : Bool) → is_unlogged_by_device cause ≡ failed → AreNotAnswered functions state old new w round cause → (new ≡ old) ⊎ FailOnDevice functions state old new w round
    by_device cause false calm left = inl (left.unchanged calm)
    by_device cause true device left = inr (left.stopped device)

    -- where it was not, the store is as it was, or the device failed
    pub still_or_failed : (cause : Unlogged) → AreNotAnswered functions state old new w round cause → (new ≡ old) ⊎ FailOnDevice functions state old new w round
    still_or_failed cause left = by_device cause (is_unlogged_by_device cause) refl left

  -- ---- what a turn made of it

  -- with these records: answers; or a number, and then there are none
  abbrev pub HasRecords : WorldState → List LogRecord → Result Replies ℕ → Type 0
  HasRecords left records (Ok replies) = AreRequestsAnswered functions w round left records replies
  HasRecords left records (Err number) = (left ≡ w) × (records ≡ [])

  has_again : (v : WorldState) (records : List LogRecord) (made : Result Replies ℕ) → HasRecords v records made → (after functions w records ≡ Some v) × AllByRecursion IsLogRecord records
  has_again v records (Ok replies) is = answered_again v records replies is
  has_again v records (Err number) is =
      (ap (after functions w) is.1 ∙ ap (λ s. Some s) (sym is.0), subst (λ (es : List LogRecord). AllByRecursion IsLogRecord es) (sym is.1) tt)

  made_again : (b : Bool) → 0 < length (entries_by b round.entries) → after functions w round.entries ≡ Some round.left → after functions w (entries_by b round.entries) ≡ Some round.left
  made_again true some again = again
  made_again false some again = absurd (omega (arith, some))

  module _ {D R : Type 0} (state : D → State) (old new : StoreView D R) where
    no_room : (left : WorldState) (records : List LogRecord) (made : Result Replies ℕ) → HasRecords left records made → 0 < length records → old.limit < old.size + batch_size old.version records
        → (0 < length needed) × (old.limit < old.size + batch_size old.version needed)
    no_room left records (Ok replies) is some over = subst (λ (es : List LogRecord). (0 < length es) × (old.limit < old.size + batch_size old.version es)) is.records_are (some, over)
    no_room left records (Err number) is some over = absurd (omega (arith, some, ap length is.1))

    failed_in : (left : WorldState) (records : List LogRecord) (made : Result Replies ℕ) → HasRecords left records made → FailsBatch functions state old new w left records → FailOnDevice functions state old new w round
    failed_in left records (Ok replies) is fails =
        let moved : FailsBatch functions state old new w left needed = subst (λ (es : List LogRecord). FailsBatch functions state old new w left es) is.records_are fails in
        record {
          again = made_again round.wrote moved.some is.made.again;
          some = moved.some;
          fits = moved.fits;
          failed = moved.failed;
          survives = moved.survives;
          all_or_none = moved.all_or_none;
        }
    failed_in left records (Err number) is fails = absurd (omega (arith, fails.some, ap length is.1))

  module _ (Makes : WorldState → List LogRecord → Result Replies ℕ → Type 0) (has : (v : WorldState) (records : List LogRecord) (made : Result Replies ℕ) → Makes v records made → HasRecords v records made) where
    pub records_again : (v : WorldState) (records : List LogRecord) (made : Result Replies ℕ) → Makes v records made → (after functions w records ≡ Some v) × AllByRecursion IsLogRecord records
    records_again v records made is = has_again v records made (has v records made is)

    module _ {D R : Type 0} (state : D → State) (old new : StoreView D R) where
      pub none_changed : (made : Result Replies ℕ) → IsTurnLogged functions state old new w (λ left records. Makes left records made) → IfErr made (λ number. new ≡ old)
      none_changed (Ok replies) logged = tt
      none_changed (Err number) logged = logged.stores.logs.nothing (ap length (has logged.left logged.records (Err number) logged.makes).1)

      pub left_by : (cause : Unlogged) → IsTurnNotLogged functions state old new w (λ left records. (made : Result Replies ℕ) × Makes left records made) cause → AreNotAnswered functions state old new w round cause
      left_by OutOfMemory unmade = record { unchanged = unmade.unchanged; full = λ full. absurd (cc); stopped = λ device. absurd (cc) }
      left_by Full unmade =
          let room = unmade.full refl in
          let is = has room.left room.records room.makes.0 room.makes.1 in
          record { unchanged = unmade.unchanged; full = λ _. no_room state old new room.left room.records room.makes.0 is room.some room.over; stopped = λ device. absurd (cc) }
      left_by DeviceFault unmade =
          let stopped = unmade.stopped refl in
          let is = has stopped.left stopped.records stopped.makes.0 stopped.makes.1 in
          record { unchanged = λ calm. absurd (cc); full = λ full. absurd (cc); stopped = λ _. failed_in state old new stopped.left stopped.records stopped.makes.0 is stopped.fails }

-- ---- requests

module _ (functions : Functions) (turn : FirstRequests) (w : WorldState) where
  has_records : (v : WorldState) (records : List LogRecord) (made : Result Replies ℕ) → MakesReplies functions turn w v records made → HasRecords functions w (round_of functions turn w) v records made
  has_records v records (Ok replies) is = is
  has_records v records (Err number) is = (is.1, is.2)

  pub replies_again : (v : WorldState) (records : List LogRecord) (made : Result Replies ℕ) → MakesReplies functions turn w v records made
      → (after functions w records ≡ Some v) × AllByRecursion IsLogRecord records
  replies_again = records_again functions w (round_of functions turn w) (MakesReplies functions turn w) has_records

  module _ {D R : Type 0} (state : D → State) (old new : StoreView D R) where
    pub refused_unchanged : (made : Result Replies ℕ) → IsTurnLogged functions state old new w (λ left records. MakesReplies functions turn w left records made) → IfErr made (λ number. new ≡ old)
    refused_unchanged = none_changed functions w (round_of functions turn w) (MakesReplies functions turn w) has_records state old new

    pub replies_logged : (made : Result Replies ℕ) → IsTurnLogged functions state old new w (λ left records. MakesReplies functions turn w left records made)
        → AnswersRequests functions state old new w turn.last (front_requests functions turn w) made
    replies_logged (Ok replies) logged = answered_logged functions w (round_of functions turn w) state old new logged.left logged.records replies logged.makes logged.stores
    replies_logged (Err number) logged = inl (logged.makes.0, refused_unchanged (Err number) logged)

    pub replies_unlogged : (cause : Unlogged) → IsTurnNotLogged functions state old new w (λ left records. (made : Result Replies ℕ) × MakesReplies functions turn w left records made) cause
        → AnswersRequests functions state old new w turn.last (front_requests functions turn w) (Err (failure_number cause))
    replies_unlogged cause unmade = inr (cause, refl, left_by functions w (round_of functions turn w) (MakesReplies functions turn w) has_records state old new cause unmade)

-- requests that are not answered leave the store as it is, or the device failed
pub unchanged_or_failed : (functions : Functions) {D R : Type 0} (state : D → State) (old new : StoreView D R) (w : WorldState) (last : ℕ) (requests : List Request) (number : ℕ) → AnswersRequests functions state old new w last requests (Err number)
    → (new ≡ old) ⊎ FailOnDevice functions state old new w (round_after_requests functions (first_round last w) requests)
unchanged_or_failed functions state old new w last requests number (inl own) = inl own.1
unchanged_or_failed functions state old new w last requests number (inr unlogged) = still_or_failed functions w (round_after_requests functions (first_round last w) requests) state old new unlogged.0 unlogged.2
