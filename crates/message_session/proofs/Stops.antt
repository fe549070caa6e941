-- Why frames were not answered together, and what is tried then.
use Rattle.std.proofs.Common.{◌≡◌, ◌≢◌, inl, inr, ℕ, ◌<◌, List, [], Option, Some, Result, Ok, Err, length, take, drop, refl, sym, ap, subst, ◌∙◌}
use Rattle.std.proofs.lemmas.List.{take-append-drop}
use Rattle.client_table.specs.CallsByName.{AnswersFirstAsked}
use Rattle.client_table.specs.declared.asked.AnyRequest.{AnyRequest}
use Rattle.disk_trait.specs.Disk.{State}
use Rattle.lisp_object.specs.declared.refusal.TheConstants.{DEVICE, LOG_FULL}
use Rattle.message_frames.specs.Frames.{Sent}
use Rattle.message_laws.specs.NearRounds.{IsTidy}
use Rattle.message_laws.proofs.Together.{near_itself}
use Rattle.message_session.specs.FrameAnswers.{AskAlike}
use Rattle.message_session.specs.MessageSessions.{HoldsWorldAlone}
use Rattle.message_session.specs.Steps.{AnswersFront, AreFramesUntaken, Breaks, RefusesFirst, StopsAfter, TakesFrames, TakesWithRoom, ended_by}
use Rattle.message_session.specs.declared.answer.TheConstants.{MOST_CLIENTS}
use Rattle.message_session.specs.declared.answer.Stop.{Stop}
use Rattle.message_session.specs.declared.answer.Stop.TheVariants as stop
use Rattle.message_session.specs.declared.ended.MessagesEnd.{MessagesEnd}
use Rattle.message_session.specs.declared.ended.MessagesEnd.TheVariants.{Fault}
use Rattle.sessions.proofs.NewHalves.{text_alone}
use Rattle.message_session.proofs.Causes.{breaks_untaken, no_room}
use Rattle.message_session.proofs.Requests.{front_alike, refused_first}
use Rattle.message_session.proofs.Streams.{none_written}
use Rattle.plist_state.specs.State.{WorldState}
use Rattle.prevalence_store.specs.calls.Snapshot.{IsSnapshotted}
use Rattle.prevalence_store.specs.calls.Store.{StoreView}
use Rattle.messages.specs.MessageAnswers.{first_round}
use Rattle.user_macros.specs.Functions.{Functions}

module _ (functions : Functions) (last : ℕ) (w : WorldState) (tidy : IsTidy w.properties) {D R : Type 0} (state : D → State) (old new : StoreView D R) (known : old.world ≡ Some w) where
  -- the store did not take the first of them
  module _ (held : Option (List ℕ)) (frames : List Sent) (all : List AnyRequest) (alike : AskAlike all frames) (number : ℕ)
      (first : AnswersFirstAsked functions state old new w MOST_CLIENTS last all (Err number)) where
    down : number ≢ LOG_FULL → Breaks functions last w state new held held frames (Fault number)
    down other = record {
      answered = [];
      next = take (length first.front) frames;
      undone = drop (length first.front) frames;
      parts = sym (take-append-drop (length first.front) frames);
      fault = inr (inr (inl (record {
        before = old;
        before_last = last;
        after = record { left = w; known = known; near = near_itself functions (first_round last w) tidy };
        asked = first.front;
        alike = front_alike all first.front first.rest frames first.parts alike;
        refused = first.answers;
        full = λ is. absurd (other is);
        output = none_written held;
      })));
    }

    pub untaken : 0 < length all → (number ≢ DEVICE → new ≡ old) → (why : Stop) → StopsAfter number why → TakesFrames functions last w state new held held last old frames (Err why)
    untaken any unchanged (stop.Untaken n) stops =
        let same = unchanged stops.1 in
        (refl, refl, same, subst (AreFramesUntaken functions last w state old frames) (sym stops.0) (refused_first functions state old new w last frames all number alike any first same))
    untaken any unchanged (stop.Ended ended) stops = subst (Breaks functions last w state new held held frames) (sym stops.0) (down stops.1)

  module _ (held written : Option (List ℕ)) (now_last : ℕ) (frames : List Sent) where
    -- nothing came of frames that were not taken
    pub untaken_left : (why : Stop) (number : ℕ) → why ≡ stop.Untaken number → TakesFrames functions last w state new held written now_last old frames (Err why)
        → (written ≡ held) × (now_last ≡ last) × (new ≡ old) × AreFramesUntaken functions last w state old frames number
    untaken_left why number is takes = subst (λ s. TakesFrames functions last w state new held written now_last old frames (Err s)) is takes

    -- they had no room
    pub roomless_left : (why : Stop) (number : ℕ) → why ≡ stop.Untaken number → number ≡ LOG_FULL → TakesFrames functions last w state new held written now_last old frames (Err why)
        → (written ≡ held) × (now_last ≡ last) × (new.world ≡ Some w) × RefusesFirst functions last w state new frames LOG_FULL
    roomless_left why number is full takes =
        let left = untaken_left why number is takes in (
          left.0,
          left.1,
          ap (λ (s : StoreView D R). s.world) left.2 ∙ known,
          subst (λ (s : StoreView D R). RefusesFirst functions last w state s frames LOG_FULL) (sym left.2)
              (subst (RefusesFirst functions last w state old frames) full (no_room functions last w state old frames number full left.3)),
        )

    -- or none that a snapshot would make
    pub untaken_with_room : (number : ℕ) → (number ≡ LOG_FULL → length frames ≡ 1 → HoldsWorldAlone old w frames)
        → TakesFrames functions last w state new held written now_last old frames (Err (stop.Untaken number)) → TakesWithRoom functions last w state new held written now_last frames (Err (stop.Untaken number))
    untaken_with_room number full takes = (
      takes.0,
      takes.1,
      ap (λ (s : StoreView D R). s.world) takes.2 ∙ known,
      λ one. breaks_untaken functions last w tidy state old new known held written takes.0 frames number (λ is. full is one) takes.2 takes.3,
    )

    -- what came of them in a half that was begun for them
    pub taken_with_room : (result : Result ℕ Stop) → (length frames ≡ 1 → HoldsWorldAlone old w frames)
        → TakesFrames functions last w state new held written now_last old frames result → TakesWithRoom functions last w state new held written now_last frames result
    taken_with_room (Ok count) full takes = takes
    taken_with_room (Err (stop.Untaken number)) full takes = untaken_with_room number (λ _. full) takes
    taken_with_room (Err (stop.Ended ended)) full takes = takes

-- one frame that was not taken ends the session
pub one_stopped : (functions : Functions) (last : ℕ) (w : WorldState) {D R : Type 0} (state : D → State) (new : StoreView D R) (held written : Option (List ℕ)) (now_last : ℕ) (frames : List Sent) (why : Stop)
    → length frames ≡ 1 → TakesWithRoom functions last w state new held written now_last frames (Err why) → Breaks functions last w state new held written frames (ended_by why)
one_stopped functions last w state new held written now_last frames (stop.Untaken n) one takes = takes.3 one
one_stopped functions last w state new held written now_last frames (stop.Ended ended) one takes = takes

-- a half that was begun for one frame holds the text alone
pub full_anew : (functions : Functions) {D R : Type 0} (state : D → State) (old new : StoreView D R) (w : WorldState) (frames : List Sent) → IsSnapshotted functions state old new w → length frames ≡ 1 → HoldsWorldAlone new w frames
full_anew functions state old new w frames renewed one = record { one = one; none_since = renewed.renews.record_count; only_text = text_alone state old new w renewed.renews }

-- frames are tried again, where nothing came of them
pub taken_again : (functions : Functions) (last : ℕ) (w : WorldState) {D R : Type 0} (state : D → State) (new : StoreView D R) (held between written : Option (List ℕ)) (mid_last now_last : ℕ)
    (frames : List Sent) (result : Result ℕ Stop) → between ≡ held → mid_last ≡ last → TakesWithRoom functions mid_last w state new between written now_last frames result
    → TakesWithRoom functions last w state new held written now_last frames result
taken_again functions last w state new held between written mid_last now_last frames result quiet same takes =
    subst (λ h. TakesWithRoom functions last w state new h written now_last frames result) quiet
    (subst (λ n. TakesWithRoom functions n w state new between written now_last frames result) same takes)

pub tried_again : (functions : Functions) (last : ℕ) (w : WorldState) {D R : Type 0} (state : D → State) (new : StoreView D R) (held between written : Option (List ℕ)) (mid_last now_last : ℕ)
    (frames : List Sent) (result : Result ℕ MessagesEnd) → between ≡ held → mid_last ≡ last → AnswersFront functions mid_last w state new between written now_last frames result
    → AnswersFront functions last w state new held written now_last frames result
tried_again functions last w state new held between written mid_last now_last frames result quiet same answers =
    subst (λ h. AnswersFront functions last w state new h written now_last frames result) quiet
    (subst (λ n. AnswersFront functions n w state new between written now_last frames result) same answers)
