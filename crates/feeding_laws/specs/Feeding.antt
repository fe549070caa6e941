-- Frames whose answers were handed to the recipient of a session, and what they are answered if they are fed again.
use Rattle.std.specs.Prelude.{◌≡◌, ℕ, ◌<◌, ◌≤◌, ◌^◌, nat_lt, Bool, false, if◌then◌else◌, List, [], ◌∷◌, ◌++◌, map, Option, None, Some, unwrap_or}
use Rattle.std.specs.List.{AllByRecursion, flat_map}
use Rattle.disk_trait.specs.Disk.{State}
use Rattle.message_frames.specs.Frames.{Sent, answer_bytes, position_bytes}
use Rattle.message_frames.specs.declared.frame.Kind.{Kind}
use Rattle.message_frames.specs.declared.frame.Kind.TheVariants.{Do, By, Ask}
use Rattle.message_laws.specs.NearRounds.{Near}
use Rattle.message_session.specs.Account.{MessageAccount, AnswersAreStored, IsPositionToldIn, with_frames}
use Rattle.message_session.specs.FrameAnswers.{answers_to_frames, each_frame}
use Rattle.plist_state.specs.Sound.{IsSoundWorldState}
use Rattle.plist_state.specs.State.{WorldState}
use Rattle.prevalence_store.specs.calls.Store.{StoreView}
use Rattle.sessions.specs.Streams.{Writes}
use Rattle.messages.specs.declared.request.Request.{Request}
use Rattle.messages.specs.MessageAnswers.{first_round}
use Rattle.messages.specs.Position.{position}
use Rattle.store_laws.specs.Rounds.{Place}
use Rattle.user_macros.specs.Functions.{Functions}

-- ---- frames without a name

-- A frame is none of a message with a name: those are answered again by the table of clients, and these laws are of the
-- others.
abbrev pub HasNoName : Kind → Type 0
HasNoName (Do number) = Unit {0}
HasNoName (By number) = ⊥
HasNoName Ask = Unit {0}

-- none of these frames is of a message with a name
abbrev pub HaveNoNames : List Sent → Type 0
HaveNoNames frames = AllByRecursion (λ (frame : Sent). HasNoName frame.0) frames

-- ---- what was handed on

-- the answers to these frames, and the store as they were handed on
pub record FrameHanding (D R : Type 0) : Type 0 where
  pub store : StoreView D R
  pub bytes : List ℕ
  pub frames : List Sent

-- the account after the answers to these frames were handed on, one time after the other
abbrev pub account_after_frames : Functions → {D R : Type 0} → MessageAccount D → List (FrameHanding D R) → MessageAccount D
account_after_frames functions account [] = account
account_after_frames functions account (one ∷ more) = account_after_frames functions (with_frames functions one.frames one.store account) more

-- the answers to frames without a name were handed on one time after the other, each time as the recipient asks
abbrev pub FramesAreHanded : Functions → {D R : Type 0} → (D → State) → MessageAccount D → List (FrameHanding D R) → Type 0
FramesAreHanded functions state account [] = Unit {0}
FramesAreHanded functions state account (one ∷ more) =
    AnswersAreStored functions state account one.store one.frames one.bytes × HaveNoNames one.frames × FramesAreHanded functions state (with_frames functions one.frames one.store account) more

-- an account as it begins with the position
pub record IsFirstMessageAccount {D : Type 0} (account : MessageAccount D) : Type 0 where
  pub none : account.answered ≡ []
  pub told : IsPositionToldIn account.last account.now
  pub sound : IsSoundWorldState account.now

-- ---- as rounds of requests

-- the number of a message without a name; None for a question, which has none, and for a message with a name
abbrev pub number_with : Kind → Option ℕ
number_with (Do number) = Some number
number_with (By number) = None
number_with Ask = None

-- what a frame without a name asks; its text is nowhere in memory
abbrev pub request_of : Sent → Request
request_of frame = record { number = number_with frame.0; text = record { ref_ptr = (0, 0); now = frame.1 } }

-- the requests of each handing, in their order
abbrev pub rounds_of_frames : {D R : Type 0} → List (FrameHanding D R) → List (List Request)
rounds_of_frames handings = map (λ one. map request_of one.frames) handings

-- the account tells of this place
pub record AccountTellsPlace {D : Type 0} (place : Place) (account : MessageAccount D) : Type 0 where
  pub world : place.world ≡ account.now
  pub last : place.last ≡ account.last

-- ---- fed again

-- whether a frame, or an answer, is that of a message over this number
abbrev pub is_message_over : ℕ → Kind → Bool
is_message_over n (Do number) = nat_lt n number
is_message_over n (By number) = false
is_message_over n Ask = false

-- of these frames those of messages over this number, in order
abbrev pub over : ℕ → List Sent → List Sent
over n [] = []
over n (one ∷ more) = if is_message_over n one.0 then one ∷ over n more else over n more

-- the position that an opening tells of this world, 0 if it has none
abbrev pub told_position : WorldState → ℕ
told_position world = unwrap_or (position world) 0

-- Of all these frames, after the message of this number in the first world, those over the position of a world are fed to a store that has it:
-- they have the answers that they have among all; and then the last number is the one after all, and the world but for its position. That is no
-- less than it was.
pub record FeedsAgain (functions : Functions) (last : ℕ) (first : WorldState) (frames : List Sent) (now : WorldState) : Type 0 where
  pub no_less : told_position first ≤ told_position now
  pub answers : answers_to_frames functions (told_position now) now (over (told_position now) frames) ≡ over (told_position now) (answers_to_frames functions last first frames)
  pub near : Near (each_frame functions (first_round (told_position now) now) (over (told_position now) frames)) (each_frame functions (first_round last first) frames)

-- ---- by a session

module _ (functions : Functions) {D R : Type 0} (store : StoreView D R) (last : ℕ) (first : WorldState) (frames : List Sent) (p : ℕ) (held written : Option (List ℕ)) where
  -- A session told this position, and then wrote the answers that the messages over it have among all these frames. The store has the world
  -- after all, but for its position.
  pub record AreAnsweredAgain : Type 0 where
    pub output : Writes held written (position_bytes p ++ flat_map answer_bytes (over p (answers_to_frames functions last first frames)))
    pub now_last : ℕ
    pub left : WorldState
    pub known : store.world ≡ Some left
    pub near : Near (first_round now_last left) (each_frame functions (first_round last first) frames)
