-- The account of a session of messages from its position to its first answers.
use Rattle.std.specs.Prelude.{ℕ, Option, None, unwrap_or}
use Rattle.std.specs.Option.{option_map}
use Rattle.message_session.specs.Account.{MessageAccount, first_message_account}
use Rattle.plist_state.specs.State.{initial}
use Rattle.prevalence_store.specs.calls.Store.{StoreView}

-- as this position was told over this store
abbrev pub account_by : {D R : Type 0} → Option ℕ → StoreView D R → Option (MessageAccount D)
account_by position store = option_map (λ p. first_message_account None p (unwrap_or store.world initial) store.disk) position
