use Rattle.std.proofs.Common.{◌≡◌, ℕ, ◌<◌, Bool, true, false, if◌then◌else◌, List, [], ◌∷◌, ◌++◌, length, map, is_some, Result, Ok, refl, sym, ap, subst, ◌∙◌, arith}
use Rattle.client_table.specs.CallsByName.{AnswersFirstAsked}
use Rattle.client_table.specs.Named.{all_answered, by_name}
use Rattle.client_table.specs.declared.asked.AnyRequest.{AnyRequest}
use Rattle.client_table.specs.declared.asked.AnyRequest.TheVariants as asked
use Rattle.client_table.specs.declared.asked.Named.{Named}
use Rattle.disk_trait.specs.Disk.{State}
use Rattle.messages.specs.MessageAnswers.{Round, first_round, with_answer, with_its_position, without_its_position}
use Rattle.messages.specs.Position.{position_property}
use Rattle.messages.specs.Rounds.{told_in}
use Rattle.messages.specs.declared.request.Replies.{Replies}
use Rattle.plist_state.specs.State.{WorldState}
use Rattle.prevalence_store.specs.calls.Store.{StoreView}
use Rattle.user_macros.specs.Functions.{Functions}
use Rattle.law_tests.proofs.told_again.tell_again.Goals as goal

-- a form of the store's own has no answer
either_told : (b : Bool) (x y : Round) → x.told ≡ y.told → (if b then x else y).told ≡ y.told
either_told true x y same = same
either_told false x y same = refl

closed_told : (round : Round) → (with_its_position round).told ≡ round.told
closed_told round = either_told round.wrote _ round refl

cleared_told : (round : Round) → (without_its_position round).told ≡ round.told
cleared_told round = either_told (is_some (position_property round.left)) _ round refl

module _ (functions : Functions) {D R : Type 0} (state : D → State) (old new : StoreView D R) (world : WorldState) (most last : ℕ) (one : AnyRequest) (replies : Replies)
    (is : AnswersFirstAsked functions state old new world most last (one ∷ []) (Ok replies)) (some : 0 < length replies.answers.items) where
  -- it was answered
  front_is : is.front ≡ one ∷ []
  front_is = by is.front is.rest is.parts (is.count)
    where
      by : (front rest : List AnyRequest) → one ∷ [] ≡ front ++ rest → length replies.answers.items ≡ length front → front ≡ one ∷ []
      by [] rest parts count = absurd (omega (arith, some, count))
      by (x ∷ []) rest parts count = sym (let first : x ≡ one = cc in ap (λ (y : AnyRequest). y ∷ []) (sym first))
      by (x ∷ y ∷ front) rest parts count = absurd (cc)

  pub answered : map told_in replies.answers.items ≡ (all_answered functions most (first_round last world) (one ∷ [])).told
  answered = is.answers.0.told ∙ ap (λ (all : List AnyRequest). (all_answered functions most (first_round last world) all).told) front_is

-- the answer in a round that has none yet
pub told_alone : (functions : Functions) (most : ℕ) (message : Named) (round : Round) (answer : List ℕ) → round.told ≡ []
    → by_name functions most message.number message.text.now round ≡ with_answer answer false (without_its_position round)
    → (all_answered functions most round (asked.Named message ∷ [])).told ≡ (answer, false) ∷ []
told_alone functions most message round answer none is =
    closed_told (by_name functions most message.number message.text.now round)
    ∙ ap (λ (r : Round). r.told) is
    ∙ ap (λ (ts : List (List ℕ × Bool)). ts ++ (answer, false) ∷ []) (cleared_told round ∙ none)

pub returns-in-Ok : goal.returns-in-Ok
returns-in-Ok g c = λ world form kept known named has found same.
    let functions = g.M.Meaning.Meaning.functions in
    let message = c.args.named.now in
    answered functions g.D.Disk.state c.args.store.now c.answer_first_asked.new.store world 4 c.args.last (asked.Named message) c.in-Ok.replies
    (c.in-Ok.ensures.answer world known) (c.in-Ok.ensures.some (λ none. absurd (cc none)))
    ∙ told_alone functions 4 message (first_round c.args.last world) _ refl
    (c.messages_have_one_answer.ensures.again functions 4 message.number message.text.now form (first_round c.args.last world) kept named has found same)
