-- What was handed on one time after the other, and what may be fed again.
use Rattle.std.proofs.Common.{◌≡◌, ◌⊎◌, inl, inr, ℕ, List, [], ◌∷◌, ◌++◌, map, Option, Some, IsTrue, unwrap_or, refl, sym, ap, subst, ◌∙◌, append_assoc}
use Rattle.std.specs.List.{AllByRecursion}
use Rattle.disk_trait.specs.Disk.{Image, State, IsHonest}
use Rattle.gate_log.specs.Layout.{LogRecord}
use Rattle.feeding_laws.specs.Feeding.{FramesAreHanded, AccountTellsPlace, FeedsAgain, FrameHanding, HaveNoNames, IsFirstMessageAccount, account_after_frames, request_of, rounds_of_frames}
use Rattle.feeding_laws.proofs.Over.{names_both}
use Rattle.feeding_laws.proofs.Stands.{Stands, fed_later, first_stands, requests_alike, stands_after}
use Rattle.message_frames.specs.Frames.{IsFrame, Sent}
use Rattle.message_session.specs.Account.{MessageAccount, FramesAreLogged, AreNextFrames, AnswersAreStored, FramesAreUnderWay, round_after, with_frames}
use Rattle.message_session.specs.FrameAnswers.{each_frame}
use Rattle.message_session.specs.MessageSessions.{text_limit}
use Rattle.plist_state.specs.State.{WorldState}
use Rattle.prevalence_store.specs.Theorem.{Keeps}
use Rattle.prevalence_store.specs.calls.ExecuteAll.{MeansAllOrNone}
use Rattle.prevalence_store.specs.calls.Store.{StoreView}
use Rattle.messages.specs.declared.request.Request.{Request}
use Rattle.prevalence_store.specs.meaning.Acceptance.{after}
use Rattle.prevalence_store.specs.meaning.Files.{MeansWorld}
use Rattle.messages.specs.MessageAnswers.{Round, round_after_requests, first_round, with_its_position}
use Rattle.messages.specs.MessageCalls.{entries_by, left_after}
use Rattle.prevalence_store.proofs.Surviving.{one_world}
use Rattle.store_laws.specs.Rounds.{Place, after_rounds, begun_from, with_round}
use Rattle.user_macros.specs.Functions.{Functions}

-- the last of them
all_last : (P : Sent → Type 0) (xs ys : List Sent) → AllByRecursion P (xs ++ ys) → AllByRecursion P ys
all_last P [] ys all = all
all_last P (x ∷ xs) ys all = all_last P xs ys all.1

each_next : {D : Type 0} (account : MessageAccount D) (frames : List Sent) → AreNextFrames account frames → AllByRecursion (IsFrame text_limit) frames
each_next account frames next = all_last (IsFrame text_limit) account.answered frames next.parts.each

-- the world after frames that come next, and their records
abbrev left_at : Functions → {D : Type 0} → MessageAccount D → List Sent → WorldState
left_at functions account frames = left_after (round_after functions account frames).wrote account.now (round_after functions account frames).left

abbrev records_at : Functions → {D : Type 0} → MessageAccount D → List Sent → List LogRecord
records_at functions account frames = entries_by (round_after functions account frames).wrote (round_after functions account frames).entries

module _ (functions : Functions) {D : Type 0} where
  round_at : (place : Place) (account : MessageAccount D) → AccountTellsPlace place account → (frames : List Sent) → HaveNoNames frames → round_after_requests functions (begun_from place) (map request_of frames) ≡ round_after functions account frames
  round_at place account placed frames unnamed =
      ap with_its_position (requests_alike functions frames (begun_from place) unnamed) ∙ (λ i. with_its_position (each_frame functions (first_round (placed.last i) (placed.world i)) frames))

-- How it stands with an account: the frames that were answered, and what a crash leaves.
pub record IsAt (functions : Functions) {D : Type 0} (state : D → State) (first_last : ℕ) (first : WorldState) (account : MessageAccount D) : Type 0 where
  pub stands : Stands functions first_last first account.answered account.last account.now
  pub honest : IsHonest (state account.disk)
  pub keeps : Keeps functions (state account.disk) account.now

module _ (functions : Functions) {D : Type 0} (state : D → State) where
  module _ (first_last : ℕ) (first : WorldState) where
    -- what an image means while these frames are under way
    module _ (account : MessageAccount D) (at : IsAt functions state first_last first account) (frames : List Sent) (next : AreNextFrames account frames) (made : after functions account.now (records_at functions account frames) ≡ Some (left_at functions account frames))
        (more : List Sent) (unnamed : HaveNoNames frames) (later_unnamed : HaveNoNames more) (image : Image) (now : WorldState) (means : MeansWorld functions image now) where
      three : (account.answered ++ frames) ++ more ≡ account.answered ++ (frames ++ more)
      three = append_assoc account.answered frames more

      before : now ≡ account.now → FeedsAgain functions first_last first (account.answered ++ (frames ++ more)) now
      before same =
          subst (FeedsAgain functions first_last first (account.answered ++ (frames ++ more))) (sym same)
          (fed_later functions first_last first account.answered account.last account.now at.stands (frames ++ more) (names_both frames more unnamed later_unnamed)).feeds

      afterwards : now ≡ left_at functions account frames → FeedsAgain functions first_last first (account.answered ++ (frames ++ more)) now
      afterwards same =
          let later = stands_after functions first_last first account.answered account.last account.now at.stands frames unnamed (each_next account frames next) in
          subst (FeedsAgain functions first_last first (account.answered ++ (frames ++ more))) (sym same)
          (subst (λ fs. FeedsAgain functions first_last first fs (left_at functions account frames)) three
          (fed_later functions first_last first (account.answered ++ frames) (round_after functions account frames).last (left_at functions account frames) later more later_unnamed).feeds)

      pub fed_by_image : MeansAllOrNone functions account.now (records_at functions account frames) image → FeedsAgain functions first_last first (account.answered ++ (frames ++ more)) now
      fed_by_image (inl none) = before (one_world functions image now account.now means none)
      fed_by_image (inr all) =
          let both : Some (left_at functions account frames) ≡ Some all.0 = sym made ∙ all.1 in
          afterwards (one_world functions image now all.0 means all.2 ∙ (let same : left_at functions account frames ≡ all.0 = cc in sym same))

  at_first : (account : MessageAccount D) → IsFirstMessageAccount account → IsHonest (state account.disk) → Keeps functions (state account.disk) account.now → IsAt functions state account.last account.now account
  at_first account first honest keeps = record {
    stands = subst (λ fs. Stands functions account.last account.now fs account.last account.now) (sym first.none) (first_stands functions account first);
    honest = honest;
    keeps = keeps;
  }

module _ (functions : Functions) {D R : Type 0} (state : D → State) where
  -- ---- one more

  pub handed_further : (handings : List (FrameHanding D R)) (account : MessageAccount D) (last : FrameHanding D R) → FramesAreHanded functions state account handings
      → AnswersAreStored functions state (account_after_frames functions account handings) last.store last.frames last.bytes → HaveNoNames last.frames → FramesAreHanded functions state account (handings ++ last ∷ [])
  handed_further [] account last handed stored unnamed = (stored, unnamed, tt)
  handed_further (one ∷ more) account last handed stored unnamed = (handed.0, handed.1, handed_further more (with_frames functions one.frames one.store account) last handed.2 stored unnamed)

  pub account_further : (handings : List (FrameHanding D R)) (account : MessageAccount D) (last : FrameHanding D R)
      → account_after_frames functions account (handings ++ last ∷ []) ≡ with_frames functions last.frames last.store (account_after_frames functions account handings)
  account_further [] account last = refl
  account_further (one ∷ more) account last = account_further more (with_frames functions one.frames one.store account) last

  -- ---- as rounds

  -- the world of an account after frames that were stored
  now_after : (account : MessageAccount D) (one : FrameHanding D R) → AnswersAreStored functions state account one.store one.frames one.bytes
      → (with_frames functions one.frames one.store account).now ≡ left_at functions account one.frames
  now_after account one stored = ap (λ o. unwrap_or o account.now) stored.known

  one_placed : (place : Place) (account : MessageAccount D) → AccountTellsPlace place account → (one : FrameHanding D R) → HaveNoNames one.frames → AnswersAreStored functions state account one.store one.frames one.bytes
      → AccountTellsPlace (with_round place (round_after_requests functions (begun_from place) (map request_of one.frames))) (with_frames functions one.frames one.store account)
  one_placed place account placed one unnamed stored =
      let same = round_at functions place account placed one.frames unnamed in
      record {
        world = (λ i. left_after (same i).wrote (placed.world i) (same i).left) ∙ sym (now_after account one stored);
        last = ap (λ (r : Round). r.last) same;
      }

  pub placed_after : (handings : List (FrameHanding D R)) (place : Place) (account : MessageAccount D) → AccountTellsPlace place account → FramesAreHanded functions state account handings
      → AccountTellsPlace (after_rounds functions place (rounds_of_frames handings)) (account_after_frames functions account handings)
  placed_after [] place account placed handed = placed
  placed_after (one ∷ more) place account placed handed =
      placed_after more (with_round place (round_after_requests functions (begun_from place) (map request_of one.frames))) (with_frames functions one.frames one.store account)
      (one_placed place account placed one handed.1 handed.0) handed.2

  -- ---- fed again

  module _ (first_last : ℕ) (first : WorldState) where
    at_next : (account : MessageAccount D) → IsAt functions state first_last first account → (one : FrameHanding D R) → HaveNoNames one.frames → AnswersAreStored functions state account one.store one.frames one.bytes
        → IsAt functions state first_last first (with_frames functions one.frames one.store account)
    at_next account at one unnamed stored =
        let survives = stored.stored.survives at.honest in
        let now = now_after account one stored in
        record {
          stands = subst (Stands functions first_last first (account.answered ++ one.frames) (round_after functions account one.frames).last) (sym now)
              (stands_after functions first_last first account.answered account.last account.now at.stands one.frames unnamed (each_next account one.frames stored.next));
          honest = subst IsTrue (sym survives.honest) at.honest;
          keeps = subst (Keeps functions (state one.store.disk)) (sym now) (survives.kept (left_at functions account one.frames) stored.known);
        }

    at_after : (handings : List (FrameHanding D R)) (account : MessageAccount D) → IsAt functions state first_last first account → FramesAreHanded functions state account handings → IsAt functions state first_last first (account_after_frames functions account handings)
    at_after [] account at handed = at
    at_after (one ∷ more) account at handed = at_after more (with_frames functions one.frames one.store account) (at_next account at one handed.1 handed.0) handed.2

  module _ (account : MessageAccount D) (handings : List (FrameHanding D R)) (more : List Sent) (later_unnamed : HaveNoNames more) (image : Image) (now : WorldState) (first : IsFirstMessageAccount account)
      (honest : IsHonest (state account.disk)) (keeps : Keeps functions (state account.disk) account.now) (handed : FramesAreHanded functions state account handings) where
    here : IsAt functions state account.last account.now (account_after_frames functions account handings)
    here = at_after account.last account.now handings account (at_first functions state account first honest keeps) handed

    pub while_stored : (one : FrameHanding D R) (unnamed : HaveNoNames one.frames) (stored : AnswersAreStored functions state (account_after_frames functions account handings) one.store one.frames one.bytes)
        → (state one.store.disk).left_since (state (account_after_frames functions account handings).disk).moment image → MeansWorld functions image now
        → FeedsAgain functions account.last account.now ((account_after_frames functions account handings).answered ++ (one.frames ++ more)) now
    while_stored one unnamed stored left means =
        let far = account_after_frames functions account handings in
        fed_by_image functions state account.last account.now far here one.frames stored.next
        ((stored.stored.survives here.honest).after_all (left_at functions far one.frames) stored.known) more unnamed later_unnamed image now means
        ((stored.stored.all_or_none here.honest).each image left)

    pub while_ended : (store : StoreView D R) (since : FramesAreUnderWay functions state (account_after_frames functions account handings) store)
        → HaveNoNames since.frames → (state store.disk).left_since (state (account_after_frames functions account handings).disk).moment image → MeansWorld functions image now
        → FeedsAgain functions account.last account.now ((account_after_frames functions account handings).answered ++ (since.frames ++ more)) now
    while_ended store since unnamed left means =
        fed_by_image functions state account.last account.now (account_after_frames functions account handings) here since.frames since.next (since.made here.honest) more unnamed later_unnamed image now means
        ((since.logged.all_or_none here.honest).each image left)
