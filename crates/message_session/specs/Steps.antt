-- The steps of a session.
use Rattle.std.specs.Prelude.{ℕ, ◌≡◌, ◌≢◌, ◌⊎◌, ◌<◌, Bool, true, false, List, [], ◌++◌, length, take, Option, Some, Result, Ok, Err}
use Rattle.std.specs.Io.KnownBytes.{Consumes, IsAtEnd}
use Rattle.disk_trait.specs.Disk.{State}
use Rattle.lisp_object.specs.declared.refusal.TheConstants.{DEVICE, INPUT, LOG_FULL, NO_MEMORY, SNAPSHOT_TOO_LARGE}
use Rattle.message_frames.specs.Frames.{AreFrames, IsBegunFrame, IsMalformedFrame, Sent}
use Rattle.message_frames.specs.declared.held.Next.{Next}
use Rattle.message_frames.specs.declared.held.Next.TheVariants as next
use Rattle.message_session.specs.FrameAnswers.{AskAlike, answered_bytes}
use Rattle.message_session.specs.MessageSessions.{AreFramesAnswered, BeginsWithAnsweredFrames, CannotBegin, EndsBy, HasCause, MessagesBegin, text_limit}
use Rattle.message_session.specs.declared.answer.Stop.{Stop}
use Rattle.message_session.specs.declared.answer.Stop.TheVariants as stop
use Rattle.message_session.specs.declared.ended.MessagesEnd.{MessagesEnd}
use Rattle.message_session.specs.declared.ended.MessagesEnd.TheVariants.{End, NoFrame, Fault}
use Rattle.message_session.specs.declared.serve.Session.{Session}
use Rattle.plist_state.specs.State.{WorldState}
use Rattle.prevalence_store.specs.calls.Execute.{SurvivesAs}
use Rattle.prevalence_store.specs.calls.Snapshot.{IsSnapshotted, Snapshots}
use Rattle.prevalence_store.specs.calls.Store.{StoreView}
use Rattle.prevalence_store.specs.declared.outcome.Outcome.TheVariants.{Refused}
use Rattle.client_table.specs.CallsByName.{AnswersAllAsked}
use Rattle.client_table.specs.declared.asked.AnyRequest.{AnyRequest}
use Rattle.message_session.specs.declared.answer.TheConstants.{MOST_CLIENTS}
use Rattle.user_macros.specs.Functions.{Functions}

-- as the end of a session
abbrev pub ended_by : Stop → MessagesEnd
ended_by (stop.Untaken number) = Fault number
ended_by (stop.Ended ended) = ended

-- the store did not take requests, for this number: as it was no fault of the device, fewer may be tried; or it was no want of room, and
-- ends the session
abbrev pub StopsAfter : ℕ → Stop → Type 0
StopsAfter number (stop.Untaken why) = (why ≡ number) × (number ≢ DEVICE)
StopsAfter number (stop.Ended ended) = (ended ≡ Fault number) × (number ≢ LOG_FULL)

-- what comes after frames that were answered, of which there are some if nobody looked
abbrev pub ComesAfter : List Sent → List ℕ → Next → Type 0
ComesAfter frames rest next.Begun = IsBegunFrame text_limit rest
ComesAfter frames rest next.Malformed = IsMalformedFrame text_limit rest
ComesAfter frames rest next.Unread = frames ≢ []

module _ (functions : Functions) {D R : Type 0} (state : D → State) (old new : StoreView D R) (world : WorldState) where
  -- a snapshot was taken for what had no room, or refused with this number
  abbrev pub RenewsForRoom : Result Unit ℕ → Type 0
  RenewsForRoom (Ok done) = IsSnapshotted functions state old new world
  RenewsForRoom (Err number) = Snapshots functions state old new world (Refused number)

  -- One that is due was taken, or was too large. None may be due.
  abbrev pub RenewsWhereDue : Result Unit MessagesEnd → Type 0
  RenewsWhereDue (Ok done) = (new.world ≡ Some world) × SurvivesAs functions state old new world [] 0
  RenewsWhereDue (Err ended) = (number : ℕ) × (ended ≡ Fault number) × (number ≢ SNAPSHOT_TOO_LARGE) × Snapshots functions state old new world (Refused number)

module _ (functions : Functions) (last : ℕ) (world : WorldState) {D R : Type 0} (state : D → State) where
  -- the store, which is as it was, refused the first of these frames, for this number
  pub record RefusesFirst (old : StoreView D R) (frames : List Sent) (number : ℕ) : Type 0 where
    pub front : List Sent
    pub undone : List Sent
    pub parts : frames ≡ front ++ undone
    pub some : 0 < length front
    pub asked : List AnyRequest
    pub alike : AskAlike asked front
    pub refused : AnswersAllAsked functions state old old world MOST_CLIENTS last asked (Err number)

  -- nothing was done with these frames: there was no memory for them, or the store refused the first of them
  abbrev pub AreFramesUntaken : StoreView D R → List Sent → ℕ → Type 0
  AreFramesUntaken old frames number = (number ≡ NO_MEMORY) ⊎ RefusesFirst old frames number

  module _ (store : StoreView D R) (held written : Option (List ℕ)) where
    -- a fault came, after these frames were answered; these come next
    abbrev pub IsFaultAfter : (answered next : List Sent) → MessagesEnd → Type 0
    IsFaultAfter answered next End = ⊥
    IsFaultAfter answered next (NoFrame place) = ⊥
    IsFaultAfter answered next (Fault number) = HasCause functions last world state store held written (answered_bytes functions last world) answered next number

    -- a fault came among these frames, some of which were answered before it
    pub record Breaks (frames : List Sent) (ended : MessagesEnd) : Type 0 where
      pub answered : List Sent
      pub next : List Sent
      pub undone : List Sent
      pub parts : frames ≡ (answered ++ next) ++ undone
      pub fault : IsFaultAfter answered next ended

    -- a fault came among the frames of these bytes
    pub record BreaksIn (read : List ℕ) (ended : MessagesEnd) : Type 0 where
      pub answered : List Sent
      pub next : List Sent
      pub rest : List ℕ
      pub parts : AreFrames text_limit (answered ++ next) rest read
      pub fault : IsFaultAfter answered next ended

    module _ (now_last : ℕ) where
      -- all of these frames were answered, or a fault ended the session among them
      abbrev pub AnswersFrames : List Sent → Result Unit MessagesEnd → Type 0
      AnswersFrames frames (Ok done) = AreFramesAnswered functions last world state store held written (answered_bytes functions last world) frames now_last
      AnswersFrames frames (Err ended) = Breaks frames ended

      -- the first so many of these frames were answered, or a fault ended the session among them
      abbrev pub AnswersFront : List Sent → Result ℕ MessagesEnd → Type 0
      AnswersFront frames (Ok count) = AreFramesAnswered functions last world state store held written (answered_bytes functions last world) (take count frames) now_last
      AnswersFront frames (Err ended) = Breaks frames ended

      -- The first so many of these frames were answered; or nothing was done with them, and all is as it was; or a fault ended the session.
      abbrev pub TakesFrames : StoreView D R → List Sent → Result ℕ Stop → Type 0
      TakesFrames old frames (Ok count) = AreFramesAnswered functions last world state store held written (answered_bytes functions last world) (take count frames) now_last
      TakesFrames old frames (Err (stop.Untaken number)) = (written ≡ held) × (now_last ≡ last) × (store ≡ old) × AreFramesUntaken old frames number
      TakesFrames old frames (Err (stop.Ended ended)) = Breaks frames ended

      -- What comes of frames for which a snapshot was taken where they had no room: the first so many of them were answered; or nothing was
      -- done with them but perhaps that snapshot, and if it is one frame alone, that is a fault which ends the session; or a fault ended it.
      abbrev pub TakesWithRoom : List Sent → Result ℕ Stop → Type 0
      TakesWithRoom frames (Ok count) = AreFramesAnswered functions last world state store held written (answered_bytes functions last world) (take count frames) now_last
      TakesWithRoom frames (Err (stop.Untaken number)) = (written ≡ held) × (now_last ≡ last) × (store.world ≡ Some world) × (length frames ≡ 1 → Breaks frames (Fault number))
      TakesWithRoom frames (Err (stop.Ended ended)) = Breaks frames ended

      -- these frames were answered, and these bytes come after them
      abbrev pub ServesFrames : List ℕ → List Sent → List ℕ → Type 0
      ServesFrames read frames rest = BeginsWithAnsweredFrames functions last world state store held written (answered_bytes functions last world) read frames rest now_last

module _ (functions : Functions) (old new : Session) (world : WorldState) {D R : Type 0} (state : D → State) (store : StoreView D R) (held written : Option (List ℕ)) where
  -- these frames were answered, which stood first among the bytes that were held, and those after them are held now
  abbrev pub PassesFrames : List Sent → Type 0
  PassesFrames frames = ServesFrames functions old.course.last world state store held written new.course.last old.held frames new.held

  -- some frames were answered
  abbrev pub AnswersSomeHeld : Result Next MessagesEnd → Type 0
  AnswersSomeHeld (Ok next) = (frames : List Sent) × PassesFrames frames × ComesAfter frames new.held next
  AnswersSomeHeld (Err ended) = BreaksIn functions old.course.last world state store held written old.held ended

  -- all frames were answered that stand whole; true if more bytes may make a frame of what is left
  abbrev pub AnswersAllHeld : Result Bool MessagesEnd → Type 0
  AnswersAllHeld (Ok true) = (frames : List Sent) × PassesFrames frames × IsBegunFrame text_limit new.held
  AnswersAllHeld (Ok false) = (frames : List Sent) × PassesFrames frames × IsMalformedFrame text_limit new.held
  AnswersAllHeld (Err ended) = BreaksIn functions old.course.last world state store held written old.held ended

-- a piece came, and is held after what was, none at the end; or a read failed, which took nothing; or there was no memory to hold the piece
abbrev pub TakesPiece : (has left : Option (List ℕ)) → (old new : List ℕ) → Result ℕ ℕ → Type 0
TakesPiece has left old new (Ok count) = (piece : List ℕ) × Consumes has left piece × (new ≡ old ++ piece) × (count ≡ length piece) × (count ≡ 0 → IsAtEnd left)
TakesPiece has left old new (Err number) = ((number ≡ INPUT) × Consumes has left []) ⊎ ((number ≡ NO_MEMORY) × (piece : List ℕ) × Consumes has left piece)

-- ---- before the frames

module _ (functions : Functions) {D R : Type 0} (state : D → State) (old new : StoreView D R) (world : WorldState) where
  -- messages were begun; or the session ends, with the number of what could not be done
  abbrev pub MayBegin : Result ℕ MessagesEnd → Type 0
  MayBegin (Ok position) = (first : WorldState) × MessagesBegin functions state old new world position first
  MayBegin (Err ended) = (number : ℕ) × (ended ≡ Fault number) × CannotBegin functions state old new world number

-- the frames of an input were answered
abbrev pub AnswersFramesOfInput : Functions → ℕ → WorldState → {D R : Type 0} → (D → State) → StoreView D R → (has left held written : Option (List ℕ)) → MessagesEnd → Type 0
AnswersFramesOfInput functions last world state store has left held written ended =
    (read : List ℕ) × Consumes has left read × EndsBy functions last world state store held written (answered_bytes functions last world) read left ended
