-- How a session of messages goes, and how it ends.
use Rattle.std.specs.Prelude.{ℕ, ◌+◌, ◌≡◌, ◌≢◌, ◌⊎◌, ◌==◌, if◌then◌else◌, List, [], ◌++◌, length, Option, Some, Result, Ok, Err}
use Rattle.std.specs.Io.KnownBytes.{Consumes, IsAtEnd}
use Rattle.std.specs.List.{flat_map}
use Rattle.disk_trait.specs.Disk.{State}
use Rattle.gate_log.specs.Layout.{half_base}
use Rattle.message_frames.specs.Frames.{AreFrames, IsBegunFrame, IsMalformedFrame, Sent, frame_bytes, position_bytes}
use Rattle.message_laws.specs.NearRounds.{Near}
use Rattle.message_session.specs.FrameAnswers.{AskAlike, each_frame, session_bytes}
use Rattle.message_session.specs.declared.ended.MessagesEnd.{MessagesEnd}
use Rattle.message_session.specs.declared.ended.MessagesEnd.TheVariants.{End, NoFrame, Fault}
use Rattle.lisp_object.specs.declared.refusal.TheConstants.{INPUT, LOG_FULL, NO_MEMORY, OUTPUT, REOPEN, SNAPSHOT_TOO_LARGE}
use Rattle.plist_state.specs.State.{WorldState}
use Rattle.prevalence_store.specs.calls.Execute.{SurvivesAs}
use Rattle.prevalence_store.specs.calls.Snapshot.{IsSnapshotted, Snapshots}
use Rattle.prevalence_store.specs.calls.Store.{StoreView}
use Rattle.sessions.specs.Streams.{Writes, WritesPart}
use Rattle.client_table.specs.CallsByName.{AnswersAllAsked}
use Rattle.client_table.specs.declared.asked.AnyRequest.{AnyRequest}
use Rattle.message_session.specs.declared.answer.TheConstants.{MOST_CLIENTS}
use Rattle.prevalence_store.specs.declared.outcome.Outcome.TheVariants.{Refused}
use Rattle.messages.specs.MessageAnswers.{first_round}
use Rattle.messages.specs.MessageCalls.{BeginsMessages}
use Rattle.user_macros.specs.Functions.{Functions}
use Rattle.world_text.specs.Snapshot.{snapshot}

-- the most bytes of a text
abbrev pub text_limit : ℕ
text_limit = 1048576

-- One frame comes next, and the half holds nothing but the text of this world.
pub record HoldsWorldAlone {D R : Type 0} (store : StoreView D R) (world : WorldState) (next : List Sent) : Type 0 where
  pub one : length next ≡ 1
  pub none_since : store.record_count ≡ 0
  pub only_text : store.size ≡ half_base store.version (length (snapshot world))

-- ---- frames that come after the message of this number, in this world

module _ (functions : Functions) (last : ℕ) (world : WorldState) where
  -- The store has the world that these frames leave, but for its position; and this is the number of the last message.
  pub record HasCarriedOut {D R : Type 0} (frames : List Sent) (now_last : ℕ) (store : StoreView D R) : Type 0 where
    pub left : WorldState
    pub known : store.world ≡ Some left
    pub near : Near (each_frame functions (first_round last world) frames) (first_round now_last left)

  -- a store that goes on has carried them out
  abbrev pub AreCarriedOut : {D R : Type 0} → List Sent → StoreView D R → Type 0
  AreCarriedOut frames store = (now_last : ℕ) × HasCarriedOut frames now_last store

  module _ {D R : Type 0} (state : D → State) (store : StoreView D R) (held written : Option (List ℕ)) (bytes : List Sent → List ℕ) where
    -- these frames were carried out, and the bytes that are written for them were written
    pub record AreFramesAnswered (frames : List Sent) (now_last : ℕ) : Type 0 where
      pub after : HasCarriedOut frames now_last store
      pub output : Writes held written (bytes frames)

    -- ---- why a fault ends it: these frames were answered whole, and these come next

    module _ (answered next : List Sent) (number : ℕ) where
      -- A read failed, or there were too many of them. Less than a frame is left.
      pub record EndsUnread (rest : List ℕ) : Type 0 where
        pub input : number ≡ INPUT
        pub none_next : next ≡ []
        pub begun : IsBegunFrame text_limit rest
        pub carried_out : AreCarriedOut answered store
        pub output : Writes held written (bytes answered)

      -- A write failed, or took nothing. The next frames are carried out too, and of their answers a part was written.
      pub record EndsUnwritten : Type 0 where
        pub output : number ≡ OUTPUT
        pub carried_out : AreCarriedOut (answered ++ next) store
        pub more : List ℕ
        pub more_is : bytes (answered ++ next) ≡ bytes answered ++ more
        pub between : Option (List ℕ)
        pub first : Writes held between (bytes answered)
        pub part : WritesPart between written more

      -- There was no memory for the session. The next frames, if any, are carried out too, and no byte of their answers was written.
      pub record EndsWithoutMemory : Type 0 where
        pub memory : number ≡ NO_MEMORY
        pub carried_out : AreCarriedOut (answered ++ next) store
        pub output : Writes held written (bytes answered)

      -- The store, as those that were answered left it, refused the next ones: with 64 one alone, in a half that holds nothing but the
      -- text of the world. Its own clause says why, and what it has now.
      pub record EndsAtRefusedFrames : Type 0 where
        pub before : StoreView D R
        pub before_last : ℕ
        pub after : HasCarriedOut answered before_last before
        pub asked : List AnyRequest
        pub alike : AskAlike asked next
        pub refused : AnswersAllAsked functions state before store after.left MOST_CLIENTS before_last asked (Err number)
        pub full : number ≡ LOG_FULL → HoldsWorldAlone before after.left next
        pub output : Writes held written (bytes answered)

      -- It refused the next one for want of room, as that found it.
      pub record NextHasNoRoom (before : StoreView D R) (left : WorldState) (before_last : ℕ) : Type 0 where
        pub one : length next ≡ 1
        pub asked : List AnyRequest
        pub alike : AskAlike asked next
        pub refused : AnswersAllAsked functions state before before left MOST_CLIENTS before_last asked (Err LOG_FULL)

      -- It refused a snapshot, that was due, or for the next ones, which had no room. One that is too large ends it for one frame alone:
      -- it is passed over if it is due.
      pub record EndsAtRefusedSnapshot : Type 0 where
        pub before : StoreView D R
        pub before_last : ℕ
        pub after : HasCarriedOut answered before_last before
        pub refused : Snapshots functions state before store after.left (Refused number)
        pub large : number ≡ SNAPSHOT_TOO_LARGE → NextHasNoRoom before after.left before_last
        pub output : Writes held written (bytes answered)

      -- a cause that is not of the input
      abbrev pub HasCause : Type 0
      HasCause = EndsUnwritten ⊎ (EndsWithoutMemory ⊎ (EndsAtRefusedFrames ⊎ EndsAtRefusedSnapshot))

    module _ (read : List ℕ) where
      -- what was read begins with these frames, which were answered, and these bytes come after them
      pub record BeginsWithAnsweredFrames (frames : List Sent) (rest : List ℕ) (now_last : ℕ) : Type 0 where
        pub parts : AreFrames text_limit frames rest read
        pub answered : AreFramesAnswered frames now_last

      -- It ended by a fault, and this is why. What was read begins with the frames that were answered and the next ones.
      pub record EndsByFault (number : ℕ) : Type 0 where
        pub answered : List Sent
        pub next : List Sent
        pub rest : List ℕ
        pub parts : AreFrames text_limit (answered ++ next) rest read
        pub cause : EndsUnread answered next number rest ⊎ HasCause answered next number

      -- How it ends. At the end of the input, with less than a frame after those that were answered. At bytes that are no frame, however
      -- they go on, with so many bytes before them. Or at a fault.
      abbrev pub EndsBy : Option (List ℕ) → MessagesEnd → Type 0
      EndsBy left End = (frames : List Sent) × (rest : List ℕ) × (now_last : ℕ) × BeginsWithAnsweredFrames frames rest now_last × IsBegunFrame text_limit rest × IsAtEnd left
      EndsBy left (NoFrame place) = (frames : List Sent) × (rest : List ℕ) × (now_last : ℕ) × BeginsWithAnsweredFrames frames rest now_last × IsMalformedFrame text_limit rest
          × (place ≡ length (flat_map frame_bytes frames))
      EndsBy left (Fault number) = EndsByFault number

-- ---- a session

module _ (functions : Functions) {D R : Type 0} (state : D → State) where
  -- there is no room for the first position
  abbrev pub HasNoRoomToBegin : StoreView D R → WorldState → Type 0
  HasNoRoomToBegin store world = BeginsMessages functions state store store world (Err LOG_FULL)

  -- the store as it was; or it had no room, and a snapshot was taken
  abbrev pub MayRenew : (old renewed : StoreView D R) → WorldState → Type 0
  MayRenew old renewed world = (renewed ≡ old) ⊎ (HasNoRoomToBegin old world × IsSnapshotted functions state old renewed world)

  -- Messages are begun, after a snapshot if there was no room: the store tells this position, and has this world.
  pub record MessagesBegin (old mid : StoreView D R) (world : WorldState) (position : ℕ) (first : WorldState) : Type 0 where
    pub renewed : StoreView D R
    pub renews : MayRenew old renewed world
    pub same : renewed.world ≡ Some world
    pub survives : SurvivesAs functions state old renewed world [] 0
    pub begins : BeginsMessages functions state renewed mid world (Ok position)
    pub known : mid.world ≡ Some first

  -- Messages could not be begun, with this number: the store as it was refused them, and not for want of room; or it had no room, and
  -- no snapshot was taken, or one was, and they were refused after it.
  abbrev pub CannotBegin : (old new : StoreView D R) → WorldState → ℕ → Type 0
  CannotBegin old new world number =
      ((number ≢ LOG_FULL) × BeginsMessages functions state old new world (Err number))
      ⊎ ((HasNoRoomToBegin old world × Snapshots functions state old new world (Refused number))
      ⊎ (HasNoRoomToBegin old world × (renewed : StoreView D R) × IsSnapshotted functions state old renewed world
      × BeginsMessages functions state renewed new world (Err number)))

  -- messages were begun, and there was no memory to tell the position
  abbrev pub IsNotTold : (old new : StoreView D R) → WorldState → ℕ → Type 0
  IsNotTold old new world number = (number ≡ NO_MEMORY) × (position : ℕ) × (first : WorldState) × MessagesBegin old new world position first

  module _ (old new : StoreView D R) (world : WorldState) (has left held written : Option (List ℕ)) where
    -- Messages could not be begun, or there was no memory to tell the position: nothing was read or written.
    pub record DoesNotBegin (ended : MessagesEnd) : Type 0 where
      pub number : ℕ
      pub fault : ended ≡ Fault number
      pub store : CannotBegin old new world number ⊎ IsNotTold old new world number
      pub unread : left ≡ has
      pub unwritten : written ≡ held

    -- A write failed, or took nothing, before the position was told whole. Nothing was read.
    pub record EndsBeforePosition (ended : MessagesEnd) : Type 0 where
      pub position : ℕ
      pub first : WorldState
      pub begins : MessagesBegin old new world position first
      pub fault : ended ≡ Fault OUTPUT
      pub unread : left ≡ has
      pub part : WritesPart held written (position_bytes position)

    -- The position was told, and frames were read and answered, until it ended so.
    pub record EndsAfterFrames (ended : MessagesEnd) : Type 0 where
      pub position : ℕ
      pub first : WorldState
      pub mid : StoreView D R
      pub begins : MessagesBegin old mid world position first
      pub read : List ℕ
      pub reads : Consumes has left read
      pub ends : EndsBy functions position first state new held written (session_bytes functions position first) read left ended

    -- What `serve_messages` does.
    abbrev pub ServesMessages : MessagesEnd → Type 0
    ServesMessages ended = DoesNotBegin ended ⊎ (EndsBeforePosition ended ⊎ EndsAfterFrames ended)

-- A session over a store that has met a device fault does nothing.
abbrev pub SessionAsksToReopen : {D R I O : Type 0} → (old new : StoreView D R) → (input left : I) → (held written : O) → MessagesEnd → Type 0
SessionAsksToReopen old new input left held written ended = (ended ≡ Fault REOPEN) × (new ≡ old) × (left ≡ input) × (written ≡ held)

-- How a session ended, where zeros were cut behind the half in use after it: with the number of what failed there, else as it ended. A store
-- that met a device fault before cuts nothing.
abbrev pub message_end_after_cut : Result Unit ℕ → MessagesEnd → MessagesEnd
message_end_after_cut (Ok done) ended = ended
message_end_after_cut (Err number) ended = if number == REOPEN then ended else Fault number
