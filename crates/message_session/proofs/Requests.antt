-- What is answered that frames ask.
--     front_alike      the first of them
--     bytes_are, carried_out      the answers to all, and the world after them
--     refused_first      where the store did not take them
use Rattle.std.proofs.Common.{◌≡◌, ◌≢◌, inr, ℕ, ◌<◌, ◌≤◌, false, List, [], ◌∷◌, ◌++◌, length, map, take, drop, Ok, Err, refl, sym, ap, subst, ◌∙◌, arith}
use Rattle.std.specs.List.{flat_map}
use Rattle.std.proofs.Math.Seq.{take-append_seam}
use Rattle.std.proofs.lemmas.List.{length-map, take-append-drop, take-map}
use Rattle.client_table.specs.CallsByName.{AnswersAllAsked, AnswersFirstAsked}
use Rattle.client_table.specs.Named.{all_answered, each_asked}
use Rattle.client_table.specs.declared.asked.AnyRequest.{AnyRequest}
use Rattle.client_table.proofs.AskedTogether.{asked_stands}
use Rattle.disk_trait.specs.Disk.{State}
use Rattle.message_frames.specs.Frames.{Sent, answer_bytes}
use Rattle.message_laws.specs.Batches.{at_first, with_batch}
use Rattle.message_laws.specs.NearRounds.{Near}
use Rattle.message_laws.proofs.Together.{StandsAt, stands_first}
use Rattle.message_laws.proofs.Tidy.{sound_tidy}
use Rattle.message_session.specs.FrameAnswers.{AskAlike, answered_bytes, frame_of_each_answer, each_frame, frame_of_request}
use Rattle.message_session.specs.MessageSessions.{HasCarriedOut}
use Rattle.message_session.specs.Steps.{AreFramesUntaken}
use Rattle.message_session.specs.declared.answer.TheConstants.{MOST_CLIENTS}
use Rattle.message_session.proofs.Rounds.{same_rounds}
use Rattle.plist_state.specs.Sound.{IsSoundWorldState}
use Rattle.plist_state.specs.State.{WorldState}
use Rattle.prevalence_store.specs.calls.Store.{StoreView}
use Rattle.messages.specs.declared.request.Replies.{Replies}
use Rattle.messages.specs.MessageAnswers.{Round, first_round}
use Rattle.messages.specs.MessageCalls.{AreAnsweredAndLogged, left_after}
use Rattle.messages.specs.declared.request.TheConstants.{ANSWER_BYTES}
use Rattle.messages.specs.Fronts.{answer_length}
use Rattle.messages.specs.Rounds.{told_in}
use Rattle.user_macros.specs.Functions.{Functions}

-- as many as frames
pub as_many : (all : List AnyRequest) (frames : List Sent) → AskAlike all frames → length all ≡ length frames
as_many all frames alike = sym (length-map all frame_of_request) ∙ ap length alike

-- the first of them ask what the first frames do
pub front_alike : (all front rest : List AnyRequest) (frames : List Sent) → all ≡ front ++ rest → AskAlike all frames → AskAlike front (take (length front) frames)
front_alike all front rest frames parts alike =
    ap (map frame_of_request) (sym (take-append_seam front rest) ∙ ap (take (length front)) (sym parts))
    ∙ sym (take-map frame_of_request (length front) all)
    ∙ ap (take (length front)) alike

-- those that were answered
pub of_first : (functions : Functions) {D R : Type 0} (state : D → State) (old new : StoreView D R) (w : WorldState) (last : ℕ) (frames : List Sent) (all : List AnyRequest) (replies : Replies)
    (count : ℕ) → count ≡ length replies.answers.items → AskAlike all frames → AnswersFirstAsked functions state old new w MOST_CLIENTS last all (Ok replies)
    → (front : List AnyRequest) × AskAlike front (take count frames) × AnswersAllAsked functions state old new w MOST_CLIENTS last front (Ok replies)
of_first functions state old new w last frames all replies count is alike first = (
  first.front,
  subst (λ n. AskAlike first.front (take n frames)) (sym (is ∙ first.count)) (front_alike all first.front first.rest frames first.parts alike),
  first.answers,
)

module _ (functions : Functions) {D R : Type 0} (state : D → State) (old new : StoreView D R) (w : WorldState) (last : ℕ) where
  module _ (sound : IsSoundWorldState w) (frames : List Sent) (all : List AnyRequest) (same : AskAlike all frames)
      (replies : Replies) (given : AreAnsweredAndLogged functions state old new w (all_answered functions MOST_CLIENTS (first_round last w) all) replies) where
    stands : StandsAt functions (each_asked functions MOST_CLIENTS (first_round last w) all) (with_batch (at_first last w) (all_answered functions MOST_CLIENTS (first_round last w) all))
    stands =
        let first = stands_first functions last w (sound_tidy w sound) in
        let again : first_round (first_round last w).last w ≡ first_round last w = λ i. record { told = []; last = first.raised i; left = w; entries = []; wrote = false } in
        subst (λ (b : Round). StandsAt functions (each_asked functions MOST_CLIENTS (first_round last w) all) (with_batch (at_first last w) (all_answered functions MOST_CLIENTS b all))) again
        (asked_stands functions MOST_CLIENTS all (first_round last w) (at_first last w) first)

    rounds : each_asked functions MOST_CLIENTS (first_round last w) all ≡ each_frame functions (first_round last w) frames
    rounds = same_rounds functions all frames (first_round last w) same

    pub bytes_are : flat_map answer_bytes (frame_of_each_answer frames (map told_in replies.answers.items)) ≡ answered_bytes functions last w frames
    bytes_are =
        ap (λ ts. flat_map answer_bytes (frame_of_each_answer frames ts)) (given.told ∙ sym stands.told ∙ ap (λ (r : Round). r.told) rounds)

    pub carried_out : HasCarriedOut functions last w frames replies.last new
    carried_out = record {
      left = left_after (all_answered functions MOST_CLIENTS (first_round last w) all).wrote w (all_answered functions MOST_CLIENTS (first_round last w) all).left;
      known = given.logs.left;
      near = subst (λ (r : Round). Near r (first_round replies.last (left_after (all_answered functions MOST_CLIENTS (first_round last w) all).wrote w (all_answered functions MOST_CLIENTS (first_round last w) all).left))) rounds
          (subst (λ n. Near (each_asked functions MOST_CLIENTS (first_round last w) all) (first_round n (left_after (all_answered functions MOST_CLIENTS (first_round last w) all).wrote w (all_answered functions MOST_CLIENTS (first_round last w) all).left)))
          (sym given.last) stands.near);
    }

-- if some are asked, the first of them are some
some_first : (functions : Functions) (first : Round) → answer_length first ≡ 0 → (front rest : List AnyRequest) → 0 < length (front ++ rest) → (rest ≢ [] → ANSWER_BYTES ≤ answer_length (each_asked functions MOST_CLIENTS first front)) → 0 < length front
some_first functions first none [] [] any enough = absurd (omega (arith, any))
some_first functions first none [] (one ∷ rest) any enough =
    let same : answer_length (each_asked functions MOST_CLIENTS first []) ≡ answer_length first = refl in
    absurd (omega (arith, same, none, enough (λ is. absurd (cc is))))
some_first functions first none (one ∷ front) rest any enough = omega arith

-- as many frames are the first of them
as_many_first : (front rest all : List AnyRequest) (frames : List Sent) → all ≡ front ++ rest → AskAlike all frames → length (take (length front) frames) ≡ length front
as_many_first front rest all frames parts alike = sym (as_many front (take (length front) frames) (front_alike all front rest frames parts alike))

-- the first of the frames were refused
pub refused_first : (functions : Functions) {D R : Type 0} (state : D → State) (old new : StoreView D R) (w : WorldState) (last : ℕ) (frames : List Sent) (all : List AnyRequest) (number : ℕ)
    → AskAlike all frames → 0 < length all → (first : AnswersFirstAsked functions state old new w MOST_CLIENTS last all (Err number)) → new ≡ old → AreFramesUntaken functions last w state old frames number
refused_first functions state old new w last frames all number alike any first same = inr (record {
  front = take (length first.front) frames;
  undone = drop (length first.front) frames;
  parts = sym (take-append-drop (length first.front) frames);
  some = subst (λ n. 0 < n) (sym (as_many_first first.front first.rest all frames first.parts alike))
      (some_first functions (first_round last w) refl first.front first.rest (subst (λ each. 0 < length each) first.parts any) first.enough);
  asked = first.front;
  alike = front_alike all first.front first.rest frames first.parts alike;
  refused = subst (λ (s : StoreView _ _). AnswersAllAsked functions state old s w MOST_CLIENTS last first.front (Err number)) same first.answers;
})
