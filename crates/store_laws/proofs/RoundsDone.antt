-- Rounds of messages, one after the other.
--     rounds_append     rounds after others
--     come_after      how far a store has come after steps
--     at_one_moment      what a crash leaves at any moment of the step after them
use Rattle.std.proofs.Common.{◌≡◌, ◌⊎◌, ℕ, Bool, true, false, if◌then◌else◌, List, [], ◌∷◌, ◌++◌, take, Option, None, Some, Ok, Err, IsSome, IsTrue, pos, inl, inr, refl, sym, ap, subst, ◌∙◌, arith}
use Rattle.std.proofs.lemmas.Bool.{false≢true}
use Rattle.disk_trait.specs.Disk.{Image, State, IsHonest, IsSoundDisk}
use Rattle.lisp_object.specs.Object.{integer}
use Rattle.plist_state.specs.State.{WorldState}
use Rattle.prevalence_store.specs.Theorem.{MeansSome, Survives}
use Rattle.prevalence_store.specs.calls.Store.{StoreView}
use Rattle.messages.specs.declared.request.Replies.{Replies}
use Rattle.messages.specs.declared.request.Request.{Request}
use Rattle.prevalence_store.specs.meaning.Acceptance.{after}
use Rattle.prevalence_store.specs.meaning.Files.{MeansWorld}
use Rattle.messages.specs.MessageAnswers.{Round, round_after_requests, first_round, each_request}
use Rattle.messages.specs.MessageCalls.{AnswersRequests, AreAnsweredAndLogged, FailOnDevice, left_after}
use Rattle.messages.specs.Position.{position_property}
use Rattle.messages.proofs.Settling.{unchanged_or_failed}
use Rattle.prevalence_store.proofs.Surviving.{one_world}
use Rattle.store_laws.specs.Messages.{IsBeforeOrAfter}
use Rattle.store_laws.specs.Rounds.{AreRoundSteps, HasComeToPlace, IsRoundStep, IsWorldAtPlace, Place, Step, requested, quiet, after_rounds, answered_in, begun_from, begun_in, rounds_of, store_after, store_by, with_round}
use Rattle.store_laws.proofs.MessagesDone.{at_any_moment, closed_at}
use Rattle.user_macros.specs.Functions.{Functions}

-- the place after a round that wrote is what the round says
wrote_there : (place : Place) (round : Round) (now : WorldState) → round.wrote ≡ true → now ≡ round.left → position_property now ≡ Some (integer (pos round.last)) → IsWorldAtPlace (with_round place round) now
wrote_there place round now wrote here told =
    (here ∙ sym (ap (λ b. left_after b place.world round.left) wrote), told ∙ sym (ap (λ b. if b then Some (integer (pos round.last)) else place.position) wrote))

-- the position of the world after a round, if the round has its own
told_after : (place : Place) (round : Round) → position_property place.world ≡ place.position → (round.wrote ≡ true → position_property round.left ≡ Some (integer (pos round.last)))
    → position_property (with_round place round).world ≡ (with_round place round).position
told_after place round known own = by round.wrote refl where
  by : (wrote : Bool) → round.wrote ≡ wrote → position_property (with_round place round).world ≡ (with_round place round).position
  by true is = ap (λ b. position_property (left_after b place.world round.left)) is ∙ own is ∙ sym (ap (λ b. if b then Some (integer (pos round.last)) else place.position) is)
  by false is = ap (λ b. position_property (left_after b place.world round.left)) is ∙ known ∙ sym (ap (λ b. if b then Some (integer (pos round.last)) else place.position) is)

module _ (functions : Functions) where
  abbrev round_at : Place → List Request → Round
  round_at place requests = round_after_requests functions (begun_from place) requests

  position_after : (place : Place) (requests : List Request) → position_property place.world ≡ place.position
      → position_property (with_round place (round_at place requests)).world ≡ (with_round place (round_at place requests)).position
  position_after place requests known =
      told_after place (round_at place requests) known
      (λ is. closed_at (each_request functions (begun_from place) requests) (each_request functions (begun_from place) requests).wrote refl is)

  pub rounds_append : (place : Place) (some more : List (List Request)) → after_rounds functions place (some ++ more) ≡ after_rounds functions (after_rounds functions place some) more
  rounds_append place [] more = refl
  rounds_append place (requests ∷ some) more = rounds_append (with_round place (round_at place requests)) some more

  -- of no form an image means the world alone
  means_none : (world : WorldState) (image : Image) → MeansSome functions world [] 0 image → MeansWorld functions image world
  means_none world image one =
      let none : one.count ≡ 0 = omega (arith, one.among) in
      let left : after functions world (take 0 []) ≡ Some one.left = subst (λ n. after functions world (take n []) ≡ Some one.left) none one.after_those in
      let same : one.left ≡ world = cc in
      subst (MeansWorld functions image) same one.meant

module _ (functions : Functions) {D R : Type 0} (state : D → State) where
  answers_all : (old new : StoreView D R) (place : Place) → HasComeToPlace functions state old place → (requests : List Request) (replies : Replies)
      → AreAnsweredAndLogged functions state old new place.world (round_at functions place requests) replies → HasComeToPlace functions state new (with_round place (round_at functions place requests))
  answers_all old new place come requests replies is =
      let survives = is.survives come.world come.honest come.keeps in
      record {
        world = is.logs.left;
        position = position_after functions place requests come.position;
        honest = subst IsTrue (sym survives.honest) come.honest;
        keeps = survives.kept (with_round place (round_at functions place requests)).world is.logs.left;
      }

  takes_none : (old new : StoreView D R) (place : Place) → HasComeToPlace functions state old place → Survives functions (state old.disk) (state new.disk) place.world [] 0 new.world → IsSome new.world
      → HasComeToPlace functions state new place
  takes_none old new place come survives still_open = by new.world refl where
    by : (left : Option WorldState) → new.world ≡ left → HasComeToPlace functions state new place
    by None none = absurd (false≢true (subst (λ (w : Option WorldState). IsSome w) none still_open))
    by (Some now) there =
        let one : Some place.world ≡ Some now = survives.after_all now there in
        let same : now ≡ place.world = cc in
        let here : new.world ≡ Some place.world = there ∙ ap Some same in
        record { world = here; position = come.position; honest = subst IsTrue (sym survives.honest) come.honest; keeps = survives.kept place.world here }

  refuses : (old new : StoreView D R) (place : Place) → HasComeToPlace functions state old place → (requests : List Request) (number : ℕ)
      → AnswersRequests functions state old new place.world place.last requests (Err number) → IsSome new.world → HasComeToPlace functions state new place
  refuses old new place come requests number is still_open = by (unchanged_or_failed functions state old new place.world place.last requests number is) where
    by : (new ≡ old) ⊎ FailOnDevice functions state old new place.world (round_after_requests functions (first_round place.last place.world) requests) → HasComeToPlace functions state new place
    by (inl same) = subst (λ (s : StoreView D R). HasComeToPlace functions state s place) (sym same) come
    by (inr failed) = absurd (false≢true (subst (λ (w : Option WorldState). IsSome w) failed.failed.unknown still_open))

  after_step : (old : StoreView D R) (place : Place) → HasComeToPlace functions state old place → (step : Step D R) → IsRoundStep functions state old place step → IsSome (store_by step).world
      → HasComeToPlace functions state (store_by step) (after_rounds functions place (answered_in step))
  after_step old place come (requested requests (Ok replies) new) is still_open = answers_all old new place come requests replies is
  after_step old place come (requested requests (Err number) new) is still_open = refuses old new place come requests number is still_open
  after_step old place come (quiet new) is still_open = takes_none old new place come (is come.world come.honest come.keeps) still_open

  pub come_after : (steps : List (Step D R)) (old : StoreView D R) (place : Place) → HasComeToPlace functions state old place → AreRoundSteps functions state old place steps
      → HasComeToPlace functions state (store_after old steps) (after_rounds functions place (rounds_of steps))
  come_after [] old place come are = come
  come_after (step ∷ steps) old place come are =
      subst (λ far. HasComeToPlace functions state (store_after (store_by step) steps) far) (sym (rounds_append functions place (answered_in step) (rounds_of steps)))
      (come_after steps (store_by step) (after_rounds functions place (answered_in step)) (after_step old place come step are.0 are.1) are.2)

  module _ (sound : (d : D) → IsHonest (state d) → IsSoundDisk (state d)) (old : StoreView D R) (place : Place) (come : HasComeToPlace functions state old place) (image : Image) (now : WorldState) (means : MeansWorld functions image now) where
    before : now ≡ place.world → IsWorldAtPlace place now
    before same = (same, ap position_property same ∙ come.position)

    in_step : (step : Step D R) → IsRoundStep functions state old place step → (state (store_by step).disk).left_since (state old.disk).moment image
        → IsWorldAtPlace place now ⊎ IsWorldAtPlace (after_rounds functions place (begun_in step)) now
    in_step (requested requests result new) is left =
        by (at_any_moment functions state sound old new place.world come.world come.honest come.keeps place.last requests result image now is left means) where
          by : IsBeforeOrAfter place.world (round_at functions place requests) now → IsWorldAtPlace place now ⊎ IsWorldAtPlace (with_round place (round_at functions place requests)) now
          by (inl same) = inl (before same)
          by (inr is_after) = inr (wrote_there place (round_at functions place requests) now is_after.0 is_after.1 is_after.2)
    in_step (quiet new) is left =
        inl (before (one_world functions image now place.world means (means_none functions place.world image ((is come.world come.honest come.keeps).any_moment.each image left))))

  pub at_one_moment : (sound : (d : D) → IsHonest (state d) → IsSoundDisk (state d)) (old : StoreView D R) (first : Place) (come : HasComeToPlace functions state old first) (steps : List (Step D R))
      → AreRoundSteps functions state old first steps → (step : Step D R) → IsRoundStep functions state (store_after old steps) (after_rounds functions first (rounds_of steps)) step
      → (image : Image) (now : WorldState) → (state (store_by step).disk).left_since (state (store_after old steps).disk).moment image → MeansWorld functions image now
      → IsWorldAtPlace (after_rounds functions first (rounds_of steps)) now ⊎ IsWorldAtPlace (after_rounds functions first (rounds_of steps ++ begun_in step)) now
  at_one_moment sound old first come steps are step is image now left means =
      subst (λ far. IsWorldAtPlace (after_rounds functions first (rounds_of steps)) now ⊎ IsWorldAtPlace far now) (sym (rounds_append functions first (rounds_of steps) (begun_in step)))
      (in_step sound (store_after old steps) (after_rounds functions first (rounds_of steps)) (come_after steps old first come are) image now means step is left)
