use Rattle.std.proofs.Common.{◌≡◌, ℕ, Some, Ok, pos, inl, inr, sym, ap, ◌∙◌}
use Rattle.std.specs.Prelude.{◌⊎◌}
use Rattle.lisp_object.specs.Object.{integer}
use Rattle.plist_state.specs.State.{WorldState}
use Rattle.messages.specs.MessageAnswers.{Round, round_after_requests, first_round}
use Rattle.messages.specs.Position.{position_property}
use Rattle.store_laws.specs.Messages.{IsBeforeOrAfter}
use Rattle.program_tests.proofs.once.answer_once.Goals as goal

before_or_after : (world now : WorldState) (round : Round) (last : ℕ) → IsBeforeOrAfter world round now → last ≡ round.last → (now ≡ world) ⊎ (position_property now ≡ Some (integer (pos last)))
before_or_after world now round last (inl same) is = inl same
before_or_after world now round last (inr done) is = inr (done.2 ∙ ap (λ (n : ℕ). Some (integer (pos n))) (sym is))

pub returns-clause-any_moment : goal.returns-clause-any_moment
returns-clause-any_moment g c = λ world now image known honest left means.
    let functions = g.M.Meaning.Meaning.functions in
    let given = c.in-Ok.ensures.answer world known in
    before_or_after world now (round_after_requests functions (first_round c.args.last world) c.args.requests.now) c.in-Ok.replies.last
    (c.each_once.ensures.any_moment functions c.args.store.now c.answer_requests.new.store world now c.args.last c.args.requests.now (Ok c.in-Ok.replies) image known honest
    (c.keeps_its_world.ensures world known honest) given left means)
    given.last

pub returns-clause-afterwards : goal.returns-clause-afterwards
returns-clause-afterwards g c = λ world now image known honest left means.
    let functions = g.M.Meaning.Meaning.functions in
    let given = c.in-Ok.ensures.answer world known in
    given.logs.left ∙ ap (λ (w : WorldState). Some w) (sym
    (c.each_once.ensures.afterwards functions c.args.store.now c.answer_requests.new.store world now c.args.last c.args.requests.now c.in-Ok.replies image known honest
    (c.keeps_its_world.ensures world known honest) given left means))
