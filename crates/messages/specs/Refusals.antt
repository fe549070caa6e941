-- Why requests were not answered, by the number of the refusal.
use Rattle.std.specs.Prelude.{◌≡◌, ◌≢◌, ℕ, ◌+◌, ◌<◌, List, length}
use Rattle.disk_trait.specs.Disk.{State}
use Rattle.gate_log.specs.Layout.{batch_size}
use Rattle.lisp_object.specs.declared.refusal.TheConstants.{DEVICE, LOG_FULL, NO_MEMORY}
use Rattle.plist_state.specs.State.{WorldState}
use Rattle.prevalence_store.specs.calls.Store.{StoreView}
use Rattle.messages.specs.declared.request.Request.{Request}
use Rattle.messages.specs.MessageAnswers.{round_after_requests, first_round}
use Rattle.messages.specs.MessageCalls.{FailOnDevice, RefusesOwn, records}
use Rattle.user_macros.specs.Functions.{Functions}

module _ (functions : Functions) {D R : Type 0} (state : D → State) (old new : StoreView D R) (world : WorldState) (last : ℕ) (requests : List Request) where
  -- their messages wrote something, for which the half has no room
  abbrev pub MessagesHaveNoRoom : Type 0
  MessagesHaveNoRoom = let needed = records functions state old new world (round_after_requests functions (first_round last world) requests) in
      (0 < length needed) × (old.limit < old.size + batch_size old.version needed)

  -- These requests were not answered, with this number.
  pub record AreRefusedBy (number : ℕ) : Type 0 where
    -- 60: the device failed as what they wrote was logged, for which there was room. All of it may be in the file, or nothing.
    pub device : number ≡ DEVICE → FailOnDevice functions state old new world (round_after_requests functions (first_round last world) requests)
    -- any other: the store is as it was
    pub unchanged : number ≢ DEVICE → new ≡ old
    -- 64: something was written, and has no room in the half
    pub full : number ≡ LOG_FULL → MessagesHaveNoRoom
    -- None of these, nor 90: a form of the store's own was refused with it, before one of them or after all.
    pub own : number ≢ DEVICE → number ≢ LOG_FULL → number ≢ NO_MEMORY → (number < DEVICE) × RefusesOwn functions (first_round last world) requests number
