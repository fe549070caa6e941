-- What `run DIR --messages` does over the store in a folder.
use Rattle.std.specs.Prelude.{◌≡◌, ◌⊎◌, ℕ, Bool, List, Option}
use Rattle.disk_trait.specs.Disk.{State}
use Rattle.message_session.specs.Account.{MessageAccount}
use Rattle.message_session.specs.MessageSessions.{ServesMessages, message_end_after_cut}
use Rattle.message_session.specs.Standing.{AcknowledgesNoFrame}
use Rattle.message_session.specs.declared.ended.MessagesEnd.{MessagesEnd}
use Rattle.message_session.specs.declared.ended.MessagesEnd.TheVariants as way
use Rattle.prevalence_store.specs.calls.Open.{IsOpened, IsUnopened}
use Rattle.prevalence_store.specs.calls.Store.{StoreView}
use Rattle.prevalence_store.specs.calls.Zeros.{TriesToCutZeros}
use Rattle.store_commands.specs.Commands.{AreStreamsUntouched}
use Rattle.store_commands.specs.Session.{half_limit}
use Rattle.store_commands.specs.declared.status.Status.{Status}
use Rattle.store_commands.specs.declared.status.Status.TheVariants.{Done, FormRefused, Fault}
use Rattle.user_macros.specs.Functions.{Functions}

-- the status after a session that ended so
abbrev pub session_status : MessagesEnd → Status
session_status way.End = Done
session_status (way.NoFrame place) = FormRefused
session_status (way.Fault number) = Fault number

-- The store that a disk holds was opened with these macro functions, and it served the frames of the input. It may have written zeros ahead,
-- which were cut then, and it was closed: this is its disk. What failed in the cut is how the session ended. A recipient
-- that keeps account has this one at the end.
pub record IsSessionOfMessageCommand (functions : Functions) {D R : Type 0} (state : D → State) (disk : D) (macros : R) (had has held written : Option (List ℕ)) (account : Option (MessageAccount D)) (ended : MessagesEnd) (back : D) : Type 0 where
  pub opened : StoreView D R
  pub is_opened : IsOpened functions state disk macros half_limit opened
  pub served : StoreView D R
  pub served_ended : MessagesEnd
  pub serves : ServesMessages functions state opened served is_opened.world had has held written served_ended
  pub closed : StoreView D R
  pub cuts : TriesToCutZeros functions state served closed
  pub ended_is : ended ≡ message_end_after_cut cuts.result served_ended
  pub under_way : AcknowledgesNoFrame functions state account closed
  pub disk_is : back ≡ closed.disk

module _ (functions : Functions) {D R : Type 0} (state : D → State) (macros : R) (whole : Bool)
    {I O : Type 0} (remaining : I → Option (List ℕ)) (contents : O → Option (List ℕ)) (input left : I) (held written : O) (account : Option (MessageAccount D)) where
  -- Such a session over the store that a disk holds; or the store is not opened, and nothing is read or written. The first disk becomes the
  -- second.
  abbrev pub ServesOn : D → D → MessagesEnd → Type 0
  ServesOn disk back ended =
      IsSessionOfMessageCommand functions state disk macros (remaining input) (remaining left) (contents held) (contents written) account ended back
      ⊎ ((number : ℕ) × (ended ≡ way.Fault number) × IsUnopened functions state disk whole half_limit number back × AreStreamsUntouched input left held written)

  -- over the disk that the opening of a folder gave, with the status of its end
  abbrev pub ServesAfter : Status → D → Type 0
  ServesAfter status disk = (back : D) × (ended : MessagesEnd) × (status ≡ session_status ended) × ServesOn disk back ended
