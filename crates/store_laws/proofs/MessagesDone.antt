-- What a crash leaves of a store in which messages were answered.
use Rattle.std.proofs.Common.{◌≡◌, ◌⊎◌, ℕ, ◌<◌, Bool, true, false, List, length, Some, Result, Ok, Err, pos, refl, sym, ap, subst, ◌∙◌, inl, inr, arith}
use Rattle.disk_trait.specs.Disk.{Image, State, IsHonest, IsSoundDisk}
use Rattle.lisp_object.specs.Object.{integer}
use Rattle.plist_state.specs.State.{WorldState}
use Rattle.messages.specs.declared.request.Request.{Request}
use Rattle.messages.specs.declared.request.Replies.{Replies}
use Rattle.prevalence_store.specs.meaning.Acceptance.{after}
use Rattle.prevalence_store.specs.meaning.Files.{MeansWorld}
use Rattle.prevalence_store.specs.calls.ExecuteAll.{MeansAllOrNone}
use Rattle.prevalence_store.specs.calls.Store.{StoreView}
use Rattle.messages.specs.MessageAnswers.{Round, round_after_requests, first_round, with_its_position, each_request}
use Rattle.messages.specs.MessageCalls.{AnswersRequests, AreAnsweredAndLogged, FailOnDevice, entries_by, left_after}
use Rattle.messages.specs.Position.{position_property}
use Rattle.prevalence_store.specs.Theorem.{Keeps}
use Rattle.messages.proofs.Positions.{position_put}
use Rattle.messages.proofs.Settling.{unchanged_or_failed}
use Rattle.prevalence_store.proofs.Surviving.{one_world, still}
use Rattle.store_laws.specs.Messages.{IsBeforeOrAfter}
use Rattle.user_macros.specs.Functions.{Functions}

-- where a message wrote, its position was put in last
closed_true : (round : Round) → position_property (with_its_position (record round { wrote = true })).left ≡ Some (integer (pos (with_its_position (record round { wrote = true })).last))
closed_true round = position_put round.last round.left

pub closed_at : (round : Round) (wrote : Bool) → round.wrote ≡ wrote → (with_its_position round).wrote ≡ true → position_property (with_its_position round).left ≡ Some (integer (pos (with_its_position round).last))
closed_at round true is said =
    subst (λ (r : Round). position_property (with_its_position r).left ≡ Some (integer (pos (with_its_position r).last))) (sym (λ i. record round { wrote = is i })) (closed_true round)
closed_at round false is said =
    absurd (let no : false ≡ true = subst (λ (r : Round). (with_its_position r).wrote ≡ true) (λ i. record round { wrote = is i }) said in cc)

module _ (functions : Functions) {D R : Type 0} (state : D → State) (sound : (d : D) → IsHonest (state d) → IsSoundDisk (state d)) (old new : StoreView D R)
    (world : WorldState) (known : old.world ≡ Some world) (honest : IsHonest (state old.disk)) (keeps : Keeps functions (state old.disk) world) (last : ℕ) (requests : List Request) where
  abbrev round : Round
  round = round_after_requests functions (first_round last world) requests

  -- one of the two worlds that an image may mean
  of_image : (wrote : Bool) → round.wrote ≡ wrote → after functions world (entries_by wrote round.entries) ≡ Some (left_after wrote world round.left)
      → (image : Image) (now : WorldState) → MeansAllOrNone functions world (entries_by wrote round.entries) image → MeansWorld functions image now → IsBeforeOrAfter world round now
  of_image wrote is again image now (inl before) means = inl (one_world functions image now world means before)
  of_image true is again image now (inr later) means =
      let both : Some round.left ≡ Some later.0 = sym again ∙ later.1 in
      let here : now ≡ round.left = one_world functions image now later.0 means later.2 ∙ (let same : round.left ≡ later.0 = cc in sym same) in
      inr (is, here, ap position_property here ∙ closed_at (each_request functions (first_round last world) requests) (each_request functions (first_round last world) requests).wrote refl is)
  of_image false is again image now (inr later) means =
      let both : Some world ≡ Some later.0 = later.1 in
      inl (one_world functions image now later.0 means later.2 ∙ (let same : world ≡ later.0 = cc in sym same))

  replied : (replies : Replies) (image : Image) (now : WorldState) → AreAnsweredAndLogged functions state old new world round replies
      → (state new.disk).left_since (state old.disk).moment image → MeansWorld functions image now → IsBeforeOrAfter world round now
  replied replies image now is left means =
      of_image round.wrote refl ((is.survives known honest keeps).after_all (left_after round.wrote world round.left) is.logs.left) image now
      ((is.all_or_none known honest keeps).each image left) means

  unchanged : new ≡ old → (image : Image) (now : WorldState) → (state new.disk).left_since (state old.disk).moment image → MeansWorld functions image now → now ≡ world
  unchanged same image now left means =
      let here : (state old.disk).left_since (state old.disk).moment image =
      subst (λ (s : StoreView D R). (state s.disk).left_since (state old.disk).moment image) same left in
      one_world functions image now world means ((still (state old.disk) (λ i. MeansWorld functions i world) (sound old.disk honest) keeps).each image here)

  stopped_at : (stopped : FailOnDevice functions state old new world round) (wrote : Bool) → round.wrote ≡ wrote → (image : Image) (now : WorldState)
      → (state new.disk).left_since (state old.disk).moment image → MeansWorld functions image now → IsBeforeOrAfter world round now
  stopped_at stopped true wrote image now left means =
      of_image true wrote (subst (λ b. after functions world (entries_by b round.entries) ≡ Some round.left) wrote stopped.again) image now
      (subst (λ b. MeansAllOrNone functions world (entries_by b round.entries) image) wrote ((stopped.all_or_none known honest keeps).each image left)) means
  stopped_at stopped false none image now left means =
      absurd (let some : 0 < length (entries_by false round.entries) = subst (λ b. 0 < length (entries_by b round.entries)) none stopped.some in omega (arith, some))

  left_by : (new ≡ old) ⊎ FailOnDevice functions state old new world round → (image : Image) (now : WorldState)
      → (state new.disk).left_since (state old.disk).moment image → MeansWorld functions image now → IsBeforeOrAfter world round now
  left_by (inl same) image now left means = inl (unchanged same image now left means)
  left_by (inr failed) image now left means = stopped_at failed round.wrote refl image now left means

  pub at_any_moment : (result : Result Replies ℕ) (image : Image) (now : WorldState) → AnswersRequests functions state old new world last requests result
      → (state new.disk).left_since (state old.disk).moment image → MeansWorld functions image now → IsBeforeOrAfter world round now
  at_any_moment (Ok replies) image now is left means = replied replies image now is left means
  at_any_moment (Err number) image now is left means = left_by (unchanged_or_failed functions state old new world last requests number is) image now left means

  pub after_all : (replies : Replies) (image : Image) (now : WorldState) → AnswersRequests functions state old new world last requests (Ok replies)
      → (state new.disk).may_leave image → MeansWorld functions image now → now ≡ left_after round.wrote world round.left
  after_all replies image now is left means =
      one_world functions image now (left_after round.wrote world round.left) means
      ((is.survives known honest keeps).kept (left_after round.wrote world round.left) is.logs.left image left)
