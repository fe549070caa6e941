use Rattle.std.proofs.Common.{List, [], ◌∷◌, Ok, IsSome, refl, sym, subst}
use Rattle.messages.specs.MessageCalls.{AnswersRequests}
use Rattle.store_laws.specs.Rounds.{Step, requested, quiet, after_rounds, place_at}
use Rattle.program_tests.proofs.rounds.answer_twice.Goals as goal

pub returns : goal.returns
returns g c = λ w known honest keeps.
    let functions = g.M.Meaning.Meaning.functions in
    let state = g.D.Disk.state in
    let once = c.answer_requests.new.store in
    let renewed = c.snapshot.new.self in
    let again = c.answer_requests-2.new.store in
    let place = after_rounds functions (place_at c.args.last w) (c.args.first.now ∷ []) in
    let one = c.in-Ok.ensures.answer w known in
    let snapshot = c.in-Snapshotted.ensures.answer place.world one.logs.left in
    let two = c.in-Ok-answer_requests.ensures.answer place.world snapshot.renews.left in
    let replies = c.in-Ok-answer_requests.last_replies in
    let steps : List (Step g.row.D.Denot g.row.M.Denot) = requested c.args.first.now (Ok c.in-Ok.replies) once ∷ quiet renewed ∷ requested c.args.second.now (Ok replies) again ∷ [] in
    c.rounds.ensures.in_between functions c.args.store.now w c.args.last steps known honest keeps (
      one,
      subst (λ o. IsSome o) (sym one.logs.left) refl,
      (
        snapshot.survives,
        subst (λ o. IsSome o) (sym snapshot.renews.left) refl,
        (
          subst (λ n. AnswersRequests functions state renewed again place.world n c.args.second.now (Ok replies)) one.last two,
          subst (λ o. IsSome o) (sym two.logs.left) refl,
          tt,
        ),
      ),
    )
