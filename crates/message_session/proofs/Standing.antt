-- Where a session stands to the recipient of its answers, and that they may be handed to it.
use Rattle.std.proofs.Common.{◌≡◌, ◌≢◌, ◌⊎◌, ℕ, ◌+◌, ◌<◌, Bool, true, false, List, [], length, Option, Some, IsTrue, take, Result, Ok, Err, inl, inr, refl, sym, ap, subst, ◌∙◌, arith}
use Rattle.std.specs.Option.{option_map}
use Rattle.std.specs.Prelude.{unwrap_or}
use Rattle.client_table.specs.CallsByName.{AnswersAllAsked, AnswersFirstAsked}
use Rattle.client_table.specs.Named.{all_answered}
use Rattle.client_table.specs.declared.asked.AnyRequest.{AnyRequest}
use Rattle.client_table.proofs.Settling.{asked_unchanged}
use Rattle.disk_trait.specs.Disk.{Image, State, IsHonest, IsSoundDisk, Throughout}
use Rattle.disk_trait.specs.Moments.{joined, weaker}
use Rattle.gate_log.specs.Layout.{LogRecord}
use Rattle.lisp_object.specs.declared.refusal.TheConstants.{DEVICE, SNAPSHOT_TOO_LARGE}
use Rattle.message_frames.specs.Frames.{Sent}
use Rattle.message_session.specs.Account.{MessageAccount, FramesAreLogged, AreNextFrames, AnswersAreStored, FramesAreUnderWay, first_message_account, round_after, with_frames}
use Rattle.message_session.specs.FrameAnswers.{AskAlike, answered_bytes, each_frame}
use Rattle.message_session.specs.Standing.{AcknowledgesNoFrame, FramesComeNext, HasLoggedNothing, RestsAt, RestsOrStops}
use Rattle.message_session.specs.Steps.{RenewsWhereDue, StopsAfter}
use Rattle.message_session.specs.declared.answer.TheConstants.{MOST_CLIENTS}
use Rattle.message_session.specs.declared.answer.Stop.{Stop}
use Rattle.message_session.specs.declared.answer.Stop.TheVariants as stop
use Rattle.message_session.specs.declared.ended.MessagesEnd.{MessagesEnd}
use Rattle.message_session.proofs.Next.{kept_before, next_begun, next_none, next_taken}
use Rattle.message_session.proofs.Requests.{front_alike}
use Rattle.message_session.proofs.Rounds.{same_rounds}
use Rattle.plist_state.specs.State.{WorldState}
use Rattle.prevalence_store.specs.Theorem.{Keeps, MeansSome, Survives}
use Rattle.prevalence_store.specs.calls.Execute.{SurvivesAs}
use Rattle.prevalence_store.specs.calls.ExecuteAll.{AllOrNone, MeansAllOrNone}
use Rattle.prevalence_store.specs.calls.Snapshot.{Snapshots}
use Rattle.prevalence_store.specs.calls.Store.{StoreView}
use Rattle.messages.specs.declared.request.Replies.{Replies}
use Rattle.prevalence_store.specs.declared.outcome.Outcome.{Outcome}
use Rattle.prevalence_store.specs.declared.outcome.Outcome.TheVariants.{Accepted, Snapshotted, Refused}
use Rattle.prevalence_store.specs.meaning.Acceptance.{after}
use Rattle.prevalence_store.specs.meaning.Files.{MeansWorld}
use Rattle.messages.specs.MessageAnswers.{Round, first_round, with_its_position}
use Rattle.messages.specs.MessageCalls.{AreAnsweredAndLogged, FailOnDevice, entries_by, left_after}
use Rattle.prevalence_store.proofs.Surviving.{both_survive, fewer_survive, none_taken}
use Rattle.user_macros.specs.Functions.{Functions}

module _ (functions : Functions) where
  -- no records are all of them or none
  means_before : (w : WorldState) (taken : List LogRecord) (i : Image) → MeansSome functions w [] 0 i → MeansAllOrNone functions w taken i
  means_before w taken i some =
      let none : some.count ≡ 0 = omega (arith, some.among) in
      let left : after functions w (take 0 []) ≡ Some some.left = subst (λ n. after functions w (take n []) ≡ Some some.left) none some.after_those in
      let same : some.left ≡ w = cc in
      inl (subst (MeansWorld functions i) same some.meant)

module _ (functions : Functions) where
  -- the records of a round make the world after it
  abbrev IsMadeBy : WorldState → Round → Type 0
  IsMadeBy w round = after functions w (entries_by round.wrote round.entries) ≡ Some (left_after round.wrote w round.left)

  -- where some are logged, a message wrote
  made_of_some : (w : WorldState) (round : Round) → 0 < length (entries_by round.wrote round.entries) → after functions w (entries_by round.wrote round.entries) ≡ Some round.left → IsMadeBy w round
  made_of_some w round some again = again ∙ by round.wrote some where
    by : (wrote : Bool) → 0 < length (entries_by wrote round.entries) → ◌≡◌ {A = Option WorldState} (Some round.left) (Some (left_after wrote w round.left))
    by true some = refl
    by false some = absurd (omega (arith, some))

-- what a snapshot survives
pub snapshot_survives : (functions : Functions) {D R : Type 0} (state : D → State) (old new : StoreView D R) (w : WorldState) (outcome : Outcome) → Snapshots functions state old new w outcome → SurvivesAs functions state old new w [] 0
snapshot_survives functions state old new w (Accepted value) is = absurd is
snapshot_survives functions state old new w Snapshotted is = is.survives
snapshot_survives functions state old new w (Refused number) (inl none) = none.survives
snapshot_survives functions state old new w (Refused number) (inr (inl fault)) = fault.survives
snapshot_survives functions state old new w (Refused number) (inr (inr memory)) = memory.survives

-- one that was due
pub due_survives : (functions : Functions) {D R : Type 0} (state : D → State) (old new : StoreView D R) (w : WorldState) (result : Result Unit MessagesEnd) → RenewsWhereDue functions state old new w result
    → SurvivesAs functions state old new w [] 0
due_survives functions state old new w (Ok done) renews = renews.1
due_survives functions state old new w (Err ended) refused = snapshot_survives functions state old new w (Refused refused.0) refused.3

-- one that was too large leaves the world
pub large_keeps : (functions : Functions) {D R : Type 0} (state : D → State) (old new : StoreView D R) (w : WorldState) (number : ℕ) → number ≡ SNAPSHOT_TOO_LARGE → Snapshots functions state old new w (Refused number)
    → old.world ≡ Some w → new.world ≡ Some w
large_keeps functions {D} {R} state old new w number large (inl none) known = ap (λ (s : StoreView D R). s.world) none.unchanged ∙ known
large_keeps functions {D} {R} state old new w number large (inr (inl fault)) known = absurd (omega (arith, large, fault.device))
large_keeps functions {D} {R} state old new w number large (inr (inr memory)) known = ap (λ (s : StoreView D R). s.world) memory.unchanged ∙ known

module _ (functions : Functions) {D R : Type 0} (state : D → State) (sound : (d : D) → IsHonest (state d) → IsSoundDisk (state d)) where
  -- ---- a call after it rested

  module _ (account : MessageAccount D) (old new : StoreView D R) (last : ℕ) (w : WorldState) (known : old.world ≡ Some w) (rest : HasLoggedNothing functions state account old last w) (taken : List LogRecord) where
    survive_since : (n : ℕ) → SurvivesAs functions state old new w taken n → IsHonest (state account.disk) → Survives functions (state account.disk) (state new.disk) w taken n new.world
    survive_since n survives honest =
        let before = rest.since honest in
        let none_more : 0 + n ≡ n = omega arith in
        subst (λ m. Survives functions (state account.disk) (state new.disk) w taken m new.world) none_more
        (both_survive functions (state account.disk) (state old.disk) (state new.disk) w w [] taken n new.world before
        (survives known (subst IsTrue (sym before.honest) honest) (before.kept w refl)))

    none_between : AllOrNone functions state old new w taken → IsHonest (state account.disk) → Throughout (state account.disk) (state new.disk) (MeansAllOrNone functions w taken)
    none_between all_or_none honest =
        let before = rest.since honest in
        let P = MeansAllOrNone functions w taken in
        joined (state account.disk) (state old.disk) (state new.disk) P P
        (weaker (state account.disk) (state old.disk) (MeansSome functions w [] 0) P before.any_moment (means_before functions w taken))
        (all_or_none known (subst IsTrue (sym before.honest) honest) (before.kept w refl)) (λ i is. is)

    logged_since : (n : ℕ) → SurvivesAs functions state old new w taken n → AllOrNone functions state old new w taken → FramesAreLogged functions state account new taken n
    logged_since n survives all_or_none = record {
      survives = λ honest. subst (λ v. Survives functions (state account.disk) (state new.disk) v taken n new.world) (sym rest.now) (survive_since n survives honest);
      all_or_none = λ honest. subst (λ v. Throughout (state account.disk) (state new.disk) (MeansAllOrNone functions v taken)) (sym rest.now) (none_between all_or_none honest);
    }

  -- ---- nothing was logged

  none_by : (old new : StoreView D R) (w : WorldState) → SurvivesAs functions state old new w [] 0 → AllOrNone functions state old new w []
  none_by old new w survives known honest keeps =
      weaker (state old.disk) (state new.disk) (MeansSome functions w [] 0) (MeansAllOrNone functions w []) (survives known honest keeps).any_moment (means_before functions w [])

  -- a call that took nothing
  pub rests_further : (told : Option (MessageAccount D)) (mid new : StoreView D R) (last : ℕ) → RestsAt functions state told mid last → ((w : WorldState) → mid.world ≡ Some w → new.world ≡ Some w)
      → ((w : WorldState) → mid.world ≡ Some w → SurvivesAs functions state mid new w [] 0) → RestsAt functions state told new last
  rests_further told mid new last rests same survives account is =
      let far = rests account is in (
        far.0,
        same far.0 far.1,
        record {
          of_input = far.2.of_input;
          last_is = far.2.last_is;
          now = far.2.now;
          since = λ honest.
              subst (λ o. Survives functions (state account.disk) (state new.disk) far.0 [] 0 o) (same far.0 far.1)
              (survive_since account mid new last far.0 far.1 far.2 [] 0 (survives far.0 far.1) honest);
        },
      )

  pub none_further : (told : Option (MessageAccount D)) (mid new : StoreView D R) (last : ℕ) → RestsAt functions state told mid last → ((w : WorldState) → mid.world ≡ Some w → SurvivesAs functions state mid new w [] 0)
      → AcknowledgesNoFrame functions state told new
  none_further told mid new last rests survives account is =
      let far = rests account is in
      record { frames = []; next = far.2.of_input; logged = logged_since account mid new last far.0 far.1 far.2 [] 0 (survives far.0 far.1) (none_by mid new far.0 (survives far.0 far.1)); made = λ _. refl }

  pub none_at_rest : (told : Option (MessageAccount D)) (store : StoreView D R) (last : ℕ) → RestsAt functions state told store last → AcknowledgesNoFrame functions state told store
  none_at_rest told store last rests account is =
      let far = rests account is in
      record {
        frames = [];
        next = far.2.of_input;
        logged = record {
          survives = λ honest. subst (λ v. Survives functions (state account.disk) (state store.disk) v [] 0 store.world) (sym far.2.now)
              (subst (λ o. Survives functions (state account.disk) (state store.disk) far.0 [] 0 o) (sym far.1) (far.2.since honest));
          all_or_none = λ honest.
              subst (λ v. Throughout (state account.disk) (state store.disk) (MeansAllOrNone functions v [])) (sym far.2.now)
              (weaker (state account.disk) (state store.disk) (MeansSome functions far.0 [] 0) (MeansAllOrNone functions far.0 []) (far.2.since honest).any_moment (means_before functions far.0 []));
        };
        made = λ _. refl;
      }

  -- a session that does not go on after frames that were tried
  pub stops_end : (told : Option (MessageAccount D)) (store : StoreView D R) (last : ℕ) (why : Stop) → RestsOrStops functions state told store last (Err why) → AcknowledgesNoFrame functions state told store
  stops_end told store last (stop.Untaken number) rests = none_at_rest told store last rests
  stops_end told store last (stop.Ended ended) none = none

  -- frames that the store did not take
  pub untaken_rests : (told : Option (MessageAccount D)) (store : StoreView D R) (last : ℕ) (why : Stop) (number : ℕ) → why ≡ stop.Untaken number → RestsOrStops functions state told store last (Err why) → RestsAt functions state told store last
  untaken_rests told store last why number is rests = subst (λ w. RestsOrStops functions state told store last (Err w)) is rests

  -- ---- what frames ask

  round_is : (old : StoreView D R) (last : ℕ) (frames : List Sent) (all : List AnyRequest) → AskAlike all frames → (account : MessageAccount D) (w : WorldState)
      → HasLoggedNothing functions state account old last w → all_answered functions MOST_CLIENTS (first_round last w) all ≡ round_after functions account frames
  round_is old last frames all alike account w rest =
      ap with_its_position (same_rounds functions all frames (first_round last w) alike) ∙ (λ i. with_its_position (each_frame functions (first_round (sym rest.last_is i) (sym rest.now i)) frames))

  -- they are under way
  under_way : (old new : StoreView D R) (last : ℕ) (frames : List Sent) (all : List AnyRequest) → AskAlike all frames → (account : MessageAccount D) → AreNextFrames account frames
      → (w : WorldState) → old.world ≡ Some w → HasLoggedNothing functions state account old last w
      → SurvivesAs functions state old new w (entries_by (all_answered functions MOST_CLIENTS (first_round last w) all).wrote (all_answered functions MOST_CLIENTS (first_round last w) all).entries) 0
      → AllOrNone functions state old new w (entries_by (all_answered functions MOST_CLIENTS (first_round last w) all).wrote (all_answered functions MOST_CLIENTS (first_round last w) all).entries)
      → (IsHonest (state account.disk) → IsMadeBy functions w (all_answered functions MOST_CLIENTS (first_round last w) all)) → FramesAreUnderWay functions state account new
  under_way old new last frames all alike account next w known rest survives all_or_none made =
      let round = all_answered functions MOST_CLIENTS (first_round last w) all in
      record {
        frames = frames;
        next = next;
        logged = subst (λ (r : Round). FramesAreLogged functions state account new (entries_by r.wrote r.entries) 0) (round_is old last frames all alike account w rest)
            (logged_since account old new last w known rest (entries_by round.wrote round.entries) 0 survives all_or_none);
        made = λ honest. subst (λ v. IsMadeBy functions v (round_after functions account frames)) (sym rest.now) (subst (IsMadeBy functions w) (round_is old last frames all alike account w rest) (made honest));
      }

  module _ (told : Option (MessageAccount D)) (old new : StoreView D R) (last : ℕ) (rests : RestsAt functions state told old last) where
    -- the first of the frames were not answered
    module _ (frames : List Sent) (come : FramesComeNext told frames) (all : List AnyRequest) (alike : AskAlike all frames) (number : ℕ)
        (answers : (w : WorldState) → old.world ≡ Some w → AnswersFirstAsked functions state old new w MOST_CLIENTS last all (Err number)) where
      none_of_those : AcknowledgesNoFrame functions state told new
      none_of_those account is = by (asked_unchanged functions state old new far.0 MOST_CLIENTS last first.front number first.answers) where
        far : (world : WorldState) × (old.world ≡ Some world) × HasLoggedNothing functions state account old last world
        far = rests account is

        first : AnswersFirstAsked functions state old new far.0 MOST_CLIENTS last all (Err number)
        first = answers far.0 far.1

        by : (new ≡ old) ⊎ FailOnDevice functions state old new far.0 (all_answered functions MOST_CLIENTS (first_round last far.0) first.front) → FramesAreUnderWay functions state account new
        by (inl same) =
            subst (λ (s : StoreView D R). FramesAreUnderWay functions state account s) (sym same) (none_at_rest told old last rests account is)
        by (inr failed) =
            under_way old new last (take (length first.front) frames) first.front (front_alike all first.front first.rest frames first.parts alike)
            account (next_taken account frames (length first.front) (come account is)) far.0 far.1 far.2
            failed.survives failed.all_or_none
            (λ _. made_of_some functions far.0 (all_answered functions MOST_CLIENTS (first_round last far.0) first.front) failed.some failed.again)

      pub unanswered : (number ≢ DEVICE → new ≡ old) → (why : Stop) → StopsAfter number why → RestsOrStops functions state told new last (Err why)
      unanswered unchanged (stop.Untaken n) stops = λ account is.
          subst (λ (s : StoreView D R). (world : WorldState) × (s.world ≡ Some world) × HasLoggedNothing functions state account s last world)
          (sym (unchanged stops.1)) (rests account is)
      unanswered unchanged (stop.Ended ended) stops = none_of_those

    -- ---- what is handed on: the answers to frames that were answered

    module _ (frames : List Sent) (come : FramesComeNext told frames) (replies : Replies)
        (answers : (w : WorldState) → old.world ≡ Some w → (all : List AnyRequest) × AskAlike all frames × AnswersAllAsked functions state old new w MOST_CLIENTS last all (Ok replies)) where
      -- nobody was told so
      pub none_told : AcknowledgesNoFrame functions state told new
      none_told account is =
          let far = rests account is in
          let given = answers far.0 far.1 in
          let round = all_answered functions MOST_CLIENTS (first_round last far.0) given.0 in
          let taken = entries_by round.wrote round.entries in
          under_way old new last frames given.0 given.1 account (come account is) far.0 far.1 far.2
          (λ known honest keeps. fewer_survive functions (state old.disk) (state new.disk) far.0 taken (length taken) 0 new.world (given.2.0.survives known honest keeps) (omega arith)) given.2.0.all_or_none
          (λ honest.
          let before = far.2.since honest in
          (given.2.0.survives far.1 (subst IsTrue (sym before.honest) honest) (before.kept far.0 refl)).after_all (left_after round.wrote far.0 round.left) given.2.0.logs.left)

      given_after : (account : MessageAccount D) (w : WorldState) → old.world ≡ Some w → (rest : HasLoggedNothing functions state account old last w)
          → AreAnsweredAndLogged functions state old new account.now (round_after functions account frames) replies
      given_after account w known rest =
          let given = answers w known in
          subst (λ v. AreAnsweredAndLogged functions state old new v (round_after functions account frames) replies) (sym rest.now)
          (subst (λ (r : Round). AreAnsweredAndLogged functions state old new w r replies) (round_is old last frames given.0 given.1 account w rest) given.2.0)

      pub answers_stored : (bytes : List ℕ) → ((w : WorldState) → old.world ≡ Some w → bytes ≡ answered_bytes functions last w frames)
          → (account : MessageAccount D) → told ≡ Some account → AnswersAreStored functions state account new frames bytes
      answers_stored bytes made account is =
          let far = rests account is in
          let here : old.world ≡ Some account.now = far.1 ∙ ap (λ v. Some v) (sym far.2.now) in
          let rest : HasLoggedNothing functions state account old last account.now = subst (λ v. HasLoggedNothing functions state account old last v) (sym far.2.now) far.2 in
          let given = given_after account far.0 far.1 far.2 in
          let round = round_after functions account frames in
          let taken = entries_by round.wrote round.entries in
          record {
            next = come account is;
            bytes_are = made far.0 far.1 ∙ (λ i. answered_bytes functions (sym far.2.last_is i) (sym far.2.now i) frames);
            known = given.logs.left;
            stored = logged_since account old new last account.now here rest taken (length taken) given.survives given.all_or_none;
          }

      -- it rests then
      pub rests_handed : (now : Option (MessageAccount D)) → ((later : MessageAccount D) → now ≡ Some later → option_map (with_frames functions frames new) told ≡ Some later)
          → ((w : WorldState) → new.world ≡ Some w → IsHonest (state new.disk) → Keeps functions (state new.disk) w) → RestsAt functions state now new replies.last
      rests_handed now kept keeps later is =
          let before = kept_before (with_frames functions frames new) told later (kept later is) in
          let far = rests before.0 before.1 in
          let given = given_after before.0 far.0 far.1 far.2 in
          let round = round_after functions before.0 frames in
          let left = left_after round.wrote before.0.now round.left in (
            left,
            given.logs.left,
            subst (λ (a : MessageAccount D). HasLoggedNothing functions state a new replies.last left) before.2 (record {
              of_input = next_none before.0 (with_frames functions frames new before.0) frames refl refl (come before.0 before.1);
              last_is = sym given.last;
              now = ap (λ o. unwrap_or o before.0.now) given.logs.left;
              since = λ honest. none_taken functions (state new.disk) left (sound new.disk honest) (keeps left given.logs.left honest);
            }),
          )

  -- the position
  pub rests_begun : (input : Option (List ℕ)) (now : Option (MessageAccount D)) (store : StoreView D R) (position : ℕ)
      → ((later : MessageAccount D) → now ≡ Some later → (world : WorldState) × (store.world ≡ Some world) × (later ≡ first_message_account input position world store.disk))
      → ((w : WorldState) → store.world ≡ Some w → IsHonest (state store.disk) → Keeps functions (state store.disk) w) → RestsAt functions state now store position
  rests_begun input now store position kept keeps later is =
      let first = kept later is in (
        first.0,
        first.1,
        subst (λ (a : MessageAccount D). HasLoggedNothing functions state a store position first.0) (sym first.2) (record {
          of_input = next_begun (first_message_account input position first.0 store.disk) refl;
          last_is = refl;
          now = refl;
          since = λ honest. none_taken functions (state store.disk) first.0 (sound store.disk honest) (keeps first.0 first.1 honest);
        }),
      )
