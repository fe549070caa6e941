-- A session over what is fed again.
use Rattle.std.proofs.Common.{◌≡◌, inl, inr, ℕ, Bool, true, false, if◌then◌else◌, List, [], ◌∷◌, ◌++◌, Option, None, Some, Ok, unwrap_or, refl, sym, ap, subst, ◌∙◌, arith}
use Rattle.std.specs.Io.KnownBytes.{Consumes, IsAtEnd}
use Rattle.std.specs.List.{AllByRecursion, flat_map}
use Rattle.std.specs.Option.{option_and_then}
use Rattle.std.proofs.lemmas.List.{append-nil}
use Rattle.disk_trait.specs.Disk.{State}
use Rattle.feeding_laws.specs.Feeding.{AreAnsweredAgain, FeedsAgain, is_message_over, over, told_position}
use Rattle.message_frames.specs.Frames.{AreFrames, IsBegunFrame, IsFrame, Sent, answer_bytes, frame_bytes, position_bytes}
use Rattle.message_frames.specs.Lists.{SplitsOneWay}
use Rattle.message_laws.specs.NearRounds.{Near}
use Rattle.message_session.specs.FrameAnswers.{answers_to_frames, each_frame, session_bytes}
use Rattle.message_session.specs.MessageSessions.{EndsBy, MessagesBegin, ServesMessages, text_limit}
use Rattle.message_session.specs.declared.ended.MessagesEnd.TheVariants.{End}
use Rattle.message_session.proofs.Pieces.{begun_none}
use Rattle.message_laws.proofs.Together.{near_on}
use Rattle.feeding_laws.proofs.Stands.{near_back}
use Rattle.plist_state.specs.State.{WorldState}
use Rattle.prevalence_store.specs.calls.Store.{StoreView}
use Rattle.sessions.specs.Streams.{Writes}
use Rattle.messages.specs.MessageAnswers.{Round, first_round}
use Rattle.messages.specs.MessageCalls.{BeginsMessages}
use Rattle.messages.specs.Position.{number_of_object, position}
use Rattle.user_macros.specs.Functions.{Functions}

-- those over a number are frames too
each_over : (n : ℕ) (frames : List Sent) → AllByRecursion (IsFrame text_limit) frames → AllByRecursion (IsFrame text_limit) (over n frames)
each_over n [] each = tt
each_over n (frame ∷ frames) each =
    elim (is_message_over n frame.0) as (λ b. AllByRecursion (IsFrame text_limit) (if b then frame ∷ over n frames else over n frames)) [
      | true ↦ (each.0, each_over n frames each.1)
      | false ↦ each_over n frames each.1
    ]

-- all of an input was read that has ended
read_all : (input read : List ℕ) (left : Option (List ℕ)) → Consumes (Some input) left read → IsAtEnd left → read ≡ input
read_all input read None reads end = absurd reads
read_all input read (Some rest) reads end = sym (reads ∙ ap (λ l. read ++ l) end ∙ append-nil read)

module _ (functions : Functions) {D R : Type 0} (state : D → State) (one_way : SplitsOneWay) (old new : StoreView D R) (last p : ℕ) (first now : WorldState) (frames : List Sent)
    (left held written : Option (List ℕ)) (feeds : FeedsAgain functions last first frames now) (told : position now ≡ Some p) (each : AllByRecursion (IsFrame text_limit) frames) where
  -- the position is told, and nothing done
  begins_so : (mid : StoreView D R) (number : ℕ) (begun_in : WorldState) → MessagesBegin functions state old mid now number begun_in → (number ≡ p) × (begun_in ≡ now)
  begins_so mid number begun_in begins = by begins.begins where
    by : BeginsMessages functions state begins.renewed mid now (Ok number) → (number ≡ p) × (begun_in ≡ now)
    by (inl there) =
        let numbers : Some number ≡ Some p = sym there.0 ∙ told in
        let worlds : Some begun_in ≡ Some now = sym begins.known ∙ ap (λ (s : StoreView D R). s.world) there.1 ∙ begins.same in
        ((let same : number ≡ p = cc in same), (let same : begun_in ≡ now = cc in same))
    by (inr set) =
        let none : None ≡ Some p = sym (ap (λ o. option_and_then number_of_object o) set.1) ∙ told in
        absurd (cc)

  again : told_position now ≡ p
  again = ap (λ o. unwrap_or o 0) told

  record Feeds : Type 0 where
    answers : answers_to_frames functions p now (over p frames) ≡ over p (answers_to_frames functions last first frames)
    near : Near (each_frame functions (first_round p now) (over p frames)) (each_frame functions (first_round last first) frames)

  fed : Feeds
  fed = record {
    answers = subst (λ n. answers_to_frames functions n now (over n frames) ≡ over n (answers_to_frames functions last first frames)) again feeds.answers;
    near = subst (λ n. Near (each_frame functions (first_round n now) (over n frames)) (each_frame functions (first_round last first) frames)) again feeds.near;
  }

  module _ (served : List Sent) (rest read : List ℕ) (parts : AreFrames text_limit served rest read) (is_read : read ≡ flat_map frame_bytes (over p frames)) where
    pub all_served : IsBegunFrame text_limit rest → served ≡ over p frames
    all_served begun =
        (one_way text_limit (omega arith) (flat_map frame_bytes (over p frames)) served (over p frames) rest []
        (record { parts = subst (AreFrames text_limit served rest) is_read parts; whole = inl begun })
        (record { parts = record { parts = sym (append-nil (flat_map frame_bytes (over p frames))); each = each_over p frames each }; whole = inl begun_none })).0

  pub answered_again : ServesMessages functions state old new now (Some (flat_map frame_bytes (over p frames))) left held written End → AreAnsweredAgain functions new last first frames p held written
  answered_again (inl unbegun) = absurd (cc unbegun.fault)
  answered_again (inr (inl untold)) = absurd (cc untold.fault)
  answered_again (inr (inr served)) =
      let ends = served.ends in
      let so = begins_so served.mid served.position served.first served.begins in
      let all : ends.0 ≡ over p frames =
      all_served ends.0 ends.1 served.read ends.3.parts (read_all (flat_map frame_bytes (over p frames)) served.read left served.reads ends.5) ends.4 in
      let after = ends.3.answered.after in
      record {
        output = subst (Writes held written) ((λ i. session_bytes functions (so.0 i) (so.1 i) (all i)) ∙ ap (λ answers. position_bytes p ++ flat_map answer_bytes answers) fed.answers)
            ends.3.answered.output;
        now_last = ends.2;
        left = after.left;
        known = after.known;
        near = near_on functions _ _ _
            (near_back _ _ (subst (λ (r : Round). Near r (first_round ends.2 after.left)) (λ i. each_frame functions (first_round (so.0 i) (so.1 i)) (all i)) after.near))
            fed.near;
      }
