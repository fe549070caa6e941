-- Where a session stands to the recipient of its answers.
use Rattle.std.specs.Prelude.{ℕ, ◌≡◌, List, [], ◌++◌, Option, Some, Result, Ok, Err}
use Rattle.std.specs.Io.KnownBytes.{Consumes}
use Rattle.disk_trait.specs.Disk.{State, IsHonest}
use Rattle.message_frames.specs.Frames.{AreFrames, Sent}
use Rattle.message_session.specs.Account.{MessageAccount, AreNextFrames, FramesAreUnderWay}
use Rattle.message_session.specs.MessageSessions.{text_limit}
use Rattle.message_session.specs.declared.answer.Stop.{Stop}
use Rattle.message_session.specs.declared.answer.Stop.TheVariants as stop
use Rattle.message_session.specs.declared.ended.MessagesEnd.{MessagesEnd}
use Rattle.plist_state.specs.State.{WorldState}
use Rattle.prevalence_store.specs.Theorem.{Survives}
use Rattle.prevalence_store.specs.calls.Store.{StoreView}
use Rattle.user_macros.specs.Functions.{Functions}

-- ---- the frames of the account

-- these bytes come next in the input, after the frames that were answered: in some input, if it is not told
pub record IsNextInInput {D : Type 0} (account : MessageAccount D) (bytes : List ℕ) : Type 0 where
  pub all : List ℕ
  pub of_input : (told : List ℕ) → account.input ≡ Some told → all ≡ told
  pub rest : List ℕ
  pub parts : AreFrames text_limit account.answered (bytes ++ rest) all

module _ {D : Type 0} where
  -- for a recipient that keeps account these frames come next
  abbrev pub FramesComeNext : Option (MessageAccount D) → List Sent → Type 0
  FramesComeNext told frames = (account : MessageAccount D) → told ≡ Some account → AreNextFrames account frames

  -- for a recipient that keeps account these bytes come next
  abbrev pub BytesComeNext : Option (MessageAccount D) → List ℕ → Type 0
  BytesComeNext told bytes = (account : MessageAccount D) → told ≡ Some account → IsNextInInput account bytes

  -- for a recipient that keeps account, what was read so far are the frames that were answered and these bytes
  abbrev pub IsReadIn : Option (MessageAccount D) → (left : Option (List ℕ)) → List ℕ → Type 0
  IsReadIn told left bytes =
      (account : MessageAccount D) → told ≡ Some account → (read : List ℕ) × Consumes account.input left read × AreFrames text_limit account.answered bytes read

  -- these frames were answered since, if it still keeps account
  abbrev pub AnswersMore : (old new : Option (MessageAccount D)) → List Sent → Type 0
  AnswersMore old new frames =
      (later : MessageAccount D) → new ≡ Some later → (account : MessageAccount D) × (old ≡ Some account) × (later.input ≡ account.input) × (later.answered ≡ account.answered ++ frames)

  -- these bytes are the frames that were answered since, and then others
  abbrev pub AnswersFirstOf : (old new : Option (MessageAccount D)) → (bytes rest : List ℕ) → Type 0
  AnswersFirstOf old new bytes rest = (frames : List Sent) × AreFrames text_limit frames rest bytes × AnswersMore old new frames

module _ (functions : Functions) {D R : Type 0} (state : D → State) where
  -- Since answers were last handed on nothing was logged: the store still has this world, and this is the number of the last message.
  pub record HasLoggedNothing (account : MessageAccount D) (store : StoreView D R) (last : ℕ) (world : WorldState) : Type 0 where
    pub of_input : AreNextFrames account []
    pub last_is : account.last ≡ last
    pub now : account.now ≡ world
    pub since : IsHonest (state account.disk) → Survives functions (state account.disk) (state store.disk) world [] 0 (Some world)

  -- a recipient that keeps account has it that nothing was logged since its answers were last handed on
  abbrev pub RestsAt : Option (MessageAccount D) → StoreView D R → ℕ → Type 0
  RestsAt told store last = (account : MessageAccount D) → told ≡ Some account → (world : WorldState) × (store.world ≡ Some world) × HasLoggedNothing account store last world

  -- what was done since answers were last handed on acknowledges nothing
  abbrev pub AcknowledgesNoFrame : Option (MessageAccount D) → StoreView D R → Type 0
  AcknowledgesNoFrame told store = (account : MessageAccount D) → told ≡ Some account → FramesAreUnderWay functions state account store

  -- after a step: nothing was logged since answers were last handed on; or the session has ended, and what was done
  -- acknowledges nothing
  abbrev pub RestsOrEnds : {A : Type 0} → Option (MessageAccount D) → StoreView D R → ℕ → Result A MessagesEnd → Type 0
  RestsOrEnds told store last (Ok done) = RestsAt told store last
  RestsOrEnds told store last (Err ended) = AcknowledgesNoFrame told store

  -- After frames that were tried together: nothing was logged since answers were last handed on, also where none was taken;
  -- or the session has ended, and what was done acknowledges nothing.
  abbrev pub RestsOrStops : Option (MessageAccount D) → StoreView D R → ℕ → Result ℕ Stop → Type 0
  RestsOrStops told store last (Ok count) = RestsAt told store last
  RestsOrStops told store last (Err (stop.Untaken number)) = RestsAt told store last
  RestsOrStops told store last (Err (stop.Ended ended)) = AcknowledgesNoFrame told store
