-- How far a session has come in its input.
use Rattle.std.proofs.Common.{◌≡◌, inl, inr, ℕ, ◌+◌, ◌-◌, Bool, true, false, List, [], ◌∷◌, ◌++◌, length, Option, Some, Ok, Err, refl, sym, ap, subst, arith, length-append}
use Rattle.std.proofs.lemmas.List.{append-nil}
use Rattle.std.specs.Io.KnownBytes.{Consumes}
use Rattle.std.specs.List.{flat_map}
use Rattle.disk_trait.specs.Disk.{State}
use Rattle.lisp_object.specs.declared.refusal.TheConstants.{INPUT, NO_MEMORY}
use Rattle.message_frames.specs.Frames.{AreFrames, IsBegunFrame, IsMalformedFrame, Sent, frame_bytes}
use Rattle.message_frames.specs.declared.frame.Kind.TheVariants.{Ask}
use Rattle.message_laws.specs.NearRounds.{IsTidy}
use Rattle.message_session.specs.FrameAnswers.{answered_bytes}
use Rattle.message_session.specs.MessageSessions.{AreCarriedOut, EndsBy, text_limit}
use Rattle.message_session.specs.Steps.{AnswersAllHeld, AnswersFramesOfInput, BreaksIn, PassesFrames, ServesFrames, TakesPiece}
use Rattle.message_session.specs.declared.ended.MessagesEnd.{MessagesEnd}
use Rattle.message_session.specs.declared.ended.MessagesEnd.TheVariants.{End, NoFrame, Fault}
use Rattle.message_session.specs.declared.serve.Session.{Session}
use Rattle.message_session.proofs.Causes.{breaks_in_both}
use Rattle.message_session.proofs.Held.{has_bytes}
use Rattle.message_session.proofs.Frames.{frames_fed, none_served, served_fed, serves_both}
use Rattle.message_session.proofs.Streams.{none_read, read_both}
use Rattle.plist_state.specs.State.{WorldState}
use Rattle.prevalence_store.specs.calls.Store.{StoreView}
use Rattle.user_macros.specs.Functions.{Functions}

no_more : (rest piece : List ℕ) → length piece ≡ 0 → rest ≡ rest ++ piece
no_more rest [] none = sym (append-nil rest)
no_more rest (b ∷ bs) none = absurd (omega (arith, none))

-- nothing may begin a frame
pub begun_none : IsBegunFrame text_limit []
begun_none = record {
  x = (Ask, []);
  more = frame_bytes (Ask, []);
  wanted = record { kind = tt; text = omega arith };
  parts = refl;
  some = has_bytes (Ask, []);
}

-- what is left may be a frame, or not
pub as_begun : (functions : Functions) (old new : Session) (world : WorldState) {D R : Type 0} (state : D → State) (store : StoreView D R) (held written : Option (List ℕ)) (may : Bool) → may ≡ true
    → AnswersAllHeld functions old new world state store held written (Ok may) → (frames : List Sent) × PassesFrames functions old new world state store held written frames × IsBegunFrame text_limit new.held
as_begun functions old new world state store held written true is answers = answers
as_begun functions old new world state store held written false is answers = absurd (cc is)

pub as_malformed : (functions : Functions) (old new : Session) (world : WorldState) {D R : Type 0} (state : D → State) (store : StoreView D R) (held written : Option (List ℕ)) (may : Bool) → may ≡ false
    → AnswersAllHeld functions old new world state store held written (Ok may) → (frames : List Sent) × PassesFrames functions old new world state store held written frames × IsMalformedFrame text_limit new.held
as_malformed functions old new world state store held written false is answers = answers
as_malformed functions old new world state store held written true is answers = absurd (cc is)

module _ (functions : Functions) (last : ℕ) (w : WorldState) {D R : Type 0} (state : D → State) where
  -- so many bytes came, of which these frames were answered and these bytes are left
  pub record HasCome (has left held written : Option (List ℕ)) (store : StoreView D R) (now_last : ℕ) (rest : List ℕ) (came : ℕ) : Type 0 where
    pub read : List ℕ
    pub reads : Consumes has left read
    pub frames : List Sent
    pub serves : ServesFrames functions last w state store held written now_last read frames rest
    pub came_is : came ≡ length read

  ends_at : (new : StoreView D R) (held written : Option (List ℕ)) (read : List ℕ) (left : Option (List ℕ)) (ended : MessagesEnd)
      → BreaksIn functions last w state new held written read ended → EndsBy functions last w state new held written (answered_bytes functions last w) read left ended
  ends_at new held written read left End b = absurd b.fault
  ends_at new held written read left (NoFrame place) b = absurd b.fault
  ends_at new held written read left (Fault number) b = record { answered = b.answered; next = b.next; rest = b.rest; parts = b.parts; cause = inr b.fault }

  module _ (tidy : IsTidy w.properties) (has held : Option (List ℕ)) where
    pub come_first : (store : StoreView D R) → store.world ≡ Some w → HasCome has has held held store last [] 0
    come_first store known = record {
      read = [];
      reads = none_read has;
      frames = [];
      serves = none_served functions last w tidy state store known held [];
      came_is = refl;
    }

    module _ (mid : StoreView D R) (between written : Option (List ℕ)) (mid_last : ℕ) (rest : List ℕ) (came : ℕ) (left : Option (List ℕ))
        (far : HasCome has left held between mid mid_last rest came) where
      -- a piece came
      pub come_fed : (less : Option (List ℕ)) (piece : List ℕ) → Consumes left less piece → HasCome has less held between mid mid_last (rest ++ piece) (came + length piece)
      come_fed less piece reads = record {
        read = far.read ++ piece;
        reads = read_both has left less far.read piece far.reads reads;
        frames = far.frames;
        serves = served_fed functions last w tidy state mid held between far.read far.frames rest mid_last piece far.serves;
        came_is = omega (arith, far.came_is, length-append far.read piece);
      }

      pub come_piece : (less : Option (List ℕ)) (now_held : List ℕ) (count : ℕ) → TakesPiece left less rest now_held (Ok count) → HasCome has less held between mid mid_last now_held (came + count)
      come_piece less now_held count takes =
          subst (λ l. HasCome has less held between mid mid_last l (came + count)) (sym takes.2)
          (subst (λ n. HasCome has less held between mid mid_last (rest ++ takes.0) (came + n)) (sym takes.3) (come_fed less takes.0 takes.1))

      -- none came: the input has ended
      pub ends_all : (less : Option (List ℕ)) (now_held : List ℕ) (count : ℕ) → TakesPiece left less rest now_held (Ok count) → count ≡ 0 → IsBegunFrame text_limit rest
          → AnswersFramesOfInput functions last w state mid has less held between End
      ends_all less now_held count takes none begun = (
        far.read ++ takes.0,
        read_both has left less far.read takes.0 far.reads takes.1,
        (
          far.frames,
          rest ++ takes.0,
          mid_last,
          served_fed functions last w tidy state mid held between far.read far.frames rest mid_last takes.0 far.serves,
          subst (IsBegunFrame text_limit) (no_more rest takes.0 (omega (arith, takes.3, none))) begun,
          takes.4 none,
        ),
      )

      -- more frames were answered
      pub come_on : (new : StoreView D R) (new_last : ℕ) (more : List Sent) (after : List ℕ)
          → ServesFrames functions mid_last far.serves.answered.after.left state new between written new_last rest more after → HasCome has left held written new new_last after came
      come_on new new_last more after serves = record {
        read = far.read;
        reads = far.reads;
        frames = far.frames ++ more;
        serves = serves_both functions last w tidy state mid held between written far.read far.frames rest mid_last far.serves new new_last more after serves;
        came_is = far.came_is;
      }

      -- ---- the end

      pub ends_broken : (new : StoreView D R) (ended : MessagesEnd) → BreaksIn functions mid_last far.serves.answered.after.left state new between written rest ended
          → AnswersFramesOfInput functions last w state new has left held written ended
      ends_broken new ended breaks = (
        far.read,
        far.reads,
        ends_at new held written far.read left ended (breaks_in_both functions last w tidy state mid held between written far.read far.frames rest mid_last far.serves new ended breaks),
      )

      carried : AreCarriedOut functions last w far.frames mid
      carried = (mid_last, far.serves.answered.after)

      none_more : (after bytes : List ℕ) → AreFrames text_limit far.frames after bytes → AreFrames text_limit (far.frames ++ []) after bytes
      none_more after bytes parts = subst (λ fs. AreFrames text_limit fs after bytes) (sym (append-nil far.frames)) parts

      -- there was no memory, for a piece that came too
      pub ends_unheld : (less : Option (List ℕ)) (piece : List ℕ) → Consumes left less piece → AnswersFramesOfInput functions last w state mid has less held between (Fault NO_MEMORY)
      ends_unheld less piece reads = (
        far.read ++ piece,
        read_both has left less far.read piece far.reads reads,
        record {
          answered = far.frames;
          next = [];
          rest = rest ++ piece;
          parts = none_more (rest ++ piece) (far.read ++ piece) (frames_fed far.frames far.read rest piece far.serves.parts);
          cause = inr (inr (inl (record {
            memory = refl;
            carried_out = subst (λ fs. AreCarriedOut functions last w fs mid) (sym (append-nil far.frames)) carried;
            output = far.serves.answered.output;
          })));
        },
      )

      -- a read failed, which took nothing
      pub ends_unread : (less : Option (List ℕ)) → Consumes left less [] → IsBegunFrame text_limit rest → AnswersFramesOfInput functions last w state mid has less held between (Fault INPUT)
      ends_unread less reads begun = (
        far.read,
        subst (Consumes has less) (append-nil far.read) (read_both has left less far.read [] far.reads reads),
        record {
          answered = far.frames;
          next = [];
          rest = rest;
          parts = none_more rest far.read far.serves.parts;
          cause = inl (record { input = refl; none_next = refl; begun = begun; carried_out = carried; output = far.serves.answered.output });
        },
      )

      -- so it is by a piece that is not held
      pub ends_by_piece : (less : Option (List ℕ)) (now_held : List ℕ) (number : ℕ) → TakesPiece left less rest now_held (Err number) → IsBegunFrame text_limit rest
          → AnswersFramesOfInput functions last w state mid has less held between (Fault number)
      ends_by_piece less now_held number (inl input) begun =
          subst (λ n. AnswersFramesOfInput functions last w state mid has less held between (Fault n)) (sym input.0) (ends_unread less input.1 begun)
      ends_by_piece less now_held number (inr memory) begun =
          subst (λ n. AnswersFramesOfInput functions last w state mid has less held between (Fault n)) (sym memory.0) (ends_unheld less memory.1 memory.2)

      pub ends_malformed : IsMalformedFrame text_limit rest → (place : ℕ) → place ≡ came - length rest → AnswersFramesOfInput functions last w state mid has left held between (NoFrame place)
      ends_malformed malformed place is = (
        far.read,
        far.reads,
        (
          far.frames,
          rest,
          mid_last,
          far.serves,
          malformed,
          omega (arith, is, far.came_is, ap length far.serves.parts.parts, length-append (flat_map frame_bytes far.frames) rest),
        ),
      )
