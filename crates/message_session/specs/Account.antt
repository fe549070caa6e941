-- What a recipient of answers keeps account of, and what it asks before they are handed to it.
use Rattle.std.specs.Prelude.{ℕ, ◌≡◌, ◌≤◌, List, [], ◌++◌, length, Option, Some, unwrap_or}
use Rattle.disk_trait.specs.Disk.{State, IsHonest, Throughout}
use Rattle.gate_log.specs.Layout.{LogRecord}
use Rattle.message_frames.specs.Frames.{AreFrames, Sent}
use Rattle.message_session.specs.FrameAnswers.{answered_bytes, each_frame}
use Rattle.message_session.specs.MessageSessions.{text_limit}
use Rattle.plist_state.specs.State.{WorldState}
use Rattle.prevalence_store.specs.Theorem.{Survives}
use Rattle.prevalence_store.specs.calls.ExecuteAll.{MeansAllOrNone}
use Rattle.prevalence_store.specs.calls.Store.{StoreView}
use Rattle.prevalence_store.specs.meaning.Acceptance.{after}
use Rattle.messages.specs.MessageAnswers.{Round, first_round, with_its_position}
use Rattle.messages.specs.MessageCalls.{entries_by, left_after}
use Rattle.messages.specs.Position.{position}
use Rattle.user_macros.specs.Functions.{Functions}

-- What the reader of the session had before it was read, if that is told. And how the session was as answers were last handed on, or, if none
-- were, as its position was: the frames that were answered, the number of the last message, the world, and the disk.
pub record MessageAccount (D : Type 0) : Type 0 where
  pub input : Option (List ℕ)
  pub answered : List Sent
  pub last : ℕ
  pub now : WorldState
  pub disk : D

-- This number is told as the position of a world. The position may be greater, but then no message up to it is carried out either.
abbrev pub IsPositionToldIn : ℕ → WorldState → Type 0
IsPositionToldIn number world = number ≤ unwrap_or (position world) 0

-- the account as a session begins: this position was told in this world, and no frame was answered
abbrev pub first_message_account : {D : Type 0} → Option (List ℕ) → ℕ → WorldState → D → MessageAccount D
first_message_account input position world disk = record { input = input; answered = []; last = position; now = world; disk = disk }

-- the round of these frames after those that were answered: their answers, and what was logged together, with the position
abbrev pub round_after : Functions → {D : Type 0} → MessageAccount D → List Sent → Round
round_after functions account frames = with_its_position (each_frame functions (first_round account.last account.now) frames)

-- the account after the answers to these frames, with the store as it is then
abbrev pub with_frames : Functions → {D R : Type 0} → List Sent → StoreView D R → MessageAccount D → MessageAccount D
with_frames functions frames store account = record {
  input = account.input;
  answered = account.answered ++ frames;
  last = (round_after functions account frames).last;
  now = unwrap_or store.world account.now;
  disk = store.disk;
}

-- These frames are the next ones of the input, after those that were answered: of some input, if it is not told.
pub record AreNextFrames {D : Type 0} (account : MessageAccount D) (frames : List Sent) : Type 0 where
  pub all : List ℕ
  pub of_input : (told : List ℕ) → account.input ≡ Some told → all ≡ told
  pub rest : List ℕ
  pub parts : AreFrames text_limit (account.answered ++ frames) rest all

-- ---- what was done since then

module _ (functions : Functions) {D R : Type 0} (state : D → State) (account : MessageAccount D) (store : StoreView D R) where
  -- These records were logged, and that many of them are acknowledged: a crash at any moment since leaves the world after all of them, or
  -- the one before, and from now on after those that are acknowledged.
  pub record FramesAreLogged (taken : List LogRecord) (acknowledged : ℕ) : Type 0 where
    pub survives : IsHonest (state account.disk) → Survives functions (state account.disk) (state store.disk) account.now taken acknowledged store.world
    pub all_or_none : IsHonest (state account.disk) → Throughout (state account.disk) (state store.disk) (MeansAllOrNone functions account.now taken)

  -- what these frames leave in the file, after those that were answered
  abbrev pub records_of_frames : List Sent → List LogRecord
  records_of_frames frames = entries_by (round_after functions account frames).wrote (round_after functions account frames).entries

  -- the world after these frames: if none of them wrote, the one before
  abbrev pub world_left_by_frames : List Sent → WorldState
  world_left_by_frames frames = left_after (round_after functions account frames).wrote account.now (round_after functions account frames).left

  -- These bytes answer these frames, the next ones after those that were answered. All that their messages wrote is stored, with the
  -- position.
  pub record AnswersAreStored (frames : List Sent) (bytes : List ℕ) : Type 0 where
    pub next : AreNextFrames account frames
    pub bytes_are : bytes ≡ answered_bytes functions account.last account.now frames
    pub known : store.world ≡ Some (world_left_by_frames frames)
    pub stored : FramesAreLogged (records_of_frames frames) (length (records_of_frames frames))

  -- The next frames were under way at most, together: nothing but what they leave was logged, and no answer to them was handed on.
  pub record FramesAreUnderWay : Type 0 where
    pub frames : List Sent
    pub next : AreNextFrames account frames
    pub logged : FramesAreLogged (records_of_frames frames) 0
    -- the world after all of it is the one after these frames
    pub made : IsHonest (state account.disk) → after functions account.now (records_of_frames frames) ≡ Some (world_left_by_frames frames)
