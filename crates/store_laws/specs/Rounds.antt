-- Rounds of messages, one after the other.
use Rattle.std.specs.Prelude.{◌≡◌, ℕ, ◌≤◌, pos, true, if◌then◌else◌, List, [], ◌∷◌, ◌++◌, fold, Option, Some, IsSome, Result, Ok, Err}
use Rattle.disk_trait.specs.Disk.{State, IsHonest}
use Rattle.lisp_object.specs.Object.{Object, integer}
use Rattle.plist_state.specs.State.{WorldState}
use Rattle.prevalence_store.specs.Theorem.{Keeps}
use Rattle.prevalence_store.specs.calls.Execute.{SurvivesAs}
use Rattle.prevalence_store.specs.calls.Store.{StoreView}
use Rattle.messages.specs.declared.request.Replies.{Replies}
use Rattle.messages.specs.declared.request.Request.{Request}
use Rattle.messages.specs.MessageAnswers.{Round, round_after_requests, first_round, each_request, one_request}
use Rattle.messages.specs.MessageCalls.{AnswersRequests, left_after}
use Rattle.messages.specs.Position.{position_property}
use Rattle.user_macros.specs.Functions.{Functions}

-- How far messages have come: the world, the number of the last of them, and the position.
pub record Place : Type 0 where
  pub world : WorldState
  pub last : ℕ
  pub position : Option Object

-- how far messages have come before the first round, after a message of this number
abbrev pub place_at : ℕ → WorldState → Place
place_at last world = record { world = world; last = last; position = position_property world }

-- the round that goes on from there, before its first request
abbrev pub begun_from : Place → Round
begun_from place = first_round place.last place.world

-- A round more. If a message of it wrote, the position is the number of its last message; else position and world stay as they are.
abbrev pub with_round : Place → Round → Place
with_round place round = record {
  world = left_after round.wrote place.world round.left;
  last = round.last;
  position = if round.wrote then Some (integer (pos round.last)) else place.position;
}

-- how far messages have come after these rounds, each from where the one before it came to
abbrev pub after_rounds : Functions → Place → List (List Request) → Place
after_rounds functions place rounds = fold (λ far requests. with_round far (round_after_requests functions (begun_from far) requests)) place rounds

-- this world is there, and tells this position
abbrev pub IsWorldAtPlace : Place → WorldState → Type 0
IsWorldAtPlace place now = (now ≡ place.world) × (position_property now ≡ place.position)

-- A message of these rounds that wrote: its number, and the requests around it.
pub record HasWritten (functions : Functions) (first : Place) (rounds : List (List Request)) (number : ℕ) : Type 0 where
  pub earlier : List (List Request)
  pub before : List Request
  pub request : Request
  pub more : List Request
  pub later : List (List Request)
  pub among : rounds ≡ earlier ++ (before ++ request ∷ more) ∷ later
  pub number_is : request.number ≡ Some number
  pub far : Round
  pub far_is : far ≡ each_request functions (begun_from (after_rounds functions first earlier)) before
  pub text : List ℕ
  pub wrote : (one_request functions far request).told ≡ far.told ++ (text, true) ∷ []

-- this number is not over the position
abbrev pub IsUpToPosition : Option Object → ℕ → Type 0
IsUpToPosition position number = (p : ℕ) × (position ≡ Some (integer (pos p))) × (number ≤ p)

-- ---- calls of a store

-- what was called, and the store after it
pub data Step (D R : Type 0) : Type 0 where
  -- `answer_requests`
  requested : List Request → Result Replies ℕ → StoreView D R → Step D R
  -- a call that takes no form, as `snapshot`
  quiet : StoreView D R → Step D R

-- the store after a step
abbrev pub store_by : {D R : Type 0} → Step D R → StoreView D R
store_by (requested requests result store) = store
store_by (quiet store) = store

-- the requests that a step began, answered or not
abbrev pub begun_in : {D R : Type 0} → Step D R → List (List Request)
begun_in (requested requests result store) = requests ∷ []
begun_in (quiet store) = []

-- the requests that a step answered
abbrev pub answered_in : {D R : Type 0} → Step D R → List (List Request)
answered_in (requested requests (Ok replies) store) = requests ∷ []
answered_in (requested requests (Err number) store) = []
answered_in (quiet store) = []

-- the rounds that these steps answered
abbrev pub rounds_of : {D R : Type 0} → List (Step D R) → List (List Request)
rounds_of [] = []
rounds_of (step ∷ steps) = answered_in step ++ rounds_of steps

-- the store after these steps
abbrev pub store_after : {D R : Type 0} → StoreView D R → List (Step D R) → StoreView D R
store_after old [] = old
store_after old (step ∷ steps) = store_after (store_by step) steps

module _ (functions : Functions) {D R : Type 0} (state : D → State) where
  -- what a step does to a store that has come so far: it answers requests; or it takes no form, and survives
  abbrev pub IsRoundStep : StoreView D R → Place → Step D R → Type 0
  IsRoundStep old place (requested requests result new) = AnswersRequests functions state old new place.world place.last requests result
  IsRoundStep old place (quiet new) = SurvivesAs functions state old new place.world [] 0

  -- Steps one after the other, each from the world and the last number that the one before it left; and the store was still
  -- open after each.
  abbrev pub AreRoundSteps : StoreView D R → Place → List (Step D R) → Type 0
  AreRoundSteps old place [] = Unit {0}
  AreRoundSteps old place (step ∷ steps) =
      IsRoundStep old place step × IsSome (store_by step).world × AreRoundSteps (store_by step) (after_rounds functions place (answered_in step)) steps

  -- The store has come so far, and whatever a crash now leaves means its world.
  pub record HasComeToPlace (store : StoreView D R) (place : Place) : Type 0 where
    pub world : store.world ≡ Some place.world
    pub position : position_property place.world ≡ place.position
    pub honest : IsHonest (state store.disk)
    pub keeps : Keeps functions (state store.disk) place.world
