use Rattle.std.proofs.Common.{◌≡◌, [], ◌∷◌, length, length-append, refl, sym, ap, subst, ◌∙◌, arith}
use Rattle.plist_state.specs.State.{Worlds}
use Rattle.prevalence_store.specs.declared.failure.Unadded.{Unadded}
use Rattle.messages.specs.MessageAnswers.{Round, round_after_requests, first_round}
use Rattle.messages.specs.MessageCalls.{RefusesOwn}
use Rattle.messages.specs.Fronts.{first_of}
use Rattle.messages.specs.Rounds.{IfRefused, MayBeLogged, round_in}
use Rattle.messages.specs.Turn.{round_of}
use Rattle.prevalence_store.specs.steps.Batch.{IsWorldMarked, entries_of}
use Rattle.messages.proofs.Settling.{replied_silent, replied_written}
use Rattle.prevalence_store.proofs.steps.Grouping.{marked_more}
use Rattle.messages.proofs.first_requests.FirstRequests.answer.Goals as goal

pub answer_up_to-requires : goal.answer_up_to-requires
answer_up_to-requires g c = record { none = ap (λ (r : Round). r.told) c.new-round.ensures }

-- ---- a form of the store's own was refused

pub back_to-requires : goal.back_to-requires
back_to-requires g c =
    let w = c.args.world.now in
    let marked : IsWorldMarked w c.answer_up_to.new.world.1 = c.answer_up_to.ensures.marks w ([], ap (λ (s : Worlds). s.1) c.in_ok-begun.ensures.marked) in
    omega (arith, ap length marked.1, length-append w.1 (w.0 ∷ marked.0), c.mark_count-mark.ensures)

pub returns-in-Err-Refused-clause-made : goal.returns-in-Err-Refused-clause-made
returns-in-Err-Refused-clause-made g c =
    let functions = g.R.Meaning.Meaning.functions in
    let turn = c.args.self.now in
    let w = c.args.world.now in
    let marked : IsWorldMarked w c.answer_up_to.new.world.1 = c.answer_up_to.ensures.marks w ([], ap (λ (s : Worlds). s.1) c.in_ok-begun.ensures.marked) in
    let back : c.back_to.new.self ≡ w = c.back_to.ensures.whole w marked.0 marked.1 (sym c.mark_count-mark.ensures) in
    let first : round_in c.new-round.result c.begin.new.world.0 ≡ first_round turn.last w.0 = c.new-round.ensures ∙ ap (λ (s : Worlds). first_round turn.last s.0) c.in_ok-begun.ensures.marked in
    let e = c.in-Err-Refused in (
      subst (λ (r : Round). RefusesOwn functions r (first_of functions turn.most r turn.requests.now) e.number) first
          (subst (λ (cause : Unadded). IfRefused cause (RefusesOwn functions (round_in c.new-round.result c.begin.new.world.0) (first_of functions turn.most (round_in c.new-round.result c.begin.new.world.0) turn.requests.now))) e.field-0-is e.ensures.refused),
      ap (λ (s : Worlds). s.0) back,
      ap entries_of c.requires.none,
    )

pub returns-in-Err-Refused-clause-marks : goal.returns-in-Err-Refused-clause-marks
returns-in-Err-Refused-clause-marks g c = λ worlds before.
    let w = c.args.world.now in
    let marked : IsWorldMarked w c.answer_up_to.new.world.1 = c.answer_up_to.ensures.marks w ([], ap (λ (s : Worlds). s.1) c.in_ok-begun.ensures.marked) in
    let back : c.back_to.new.self ≡ w = c.back_to.ensures.whole w marked.0 marked.1 (sym c.mark_count-mark.ensures) in
    subst (λ (s : Worlds). IsWorldMarked worlds s.1) (sym back) before

-- memory ran out
pub returns-in-Err-OutOfMemory-clause-marks : goal.returns-in-Err-OutOfMemory-clause-marks
returns-in-Err-OutOfMemory-clause-marks g c = λ worlds before.
    let w = c.args.world.now in
    c.answer_up_to.ensures.marks worlds (marked_more worlds w.1 c.begin.new.world.1 w.0 (ap (λ (s : Worlds). s.1) c.in_ok-begun.ensures.marked) before)

-- ---- no message wrote

pub back_to-requires-then-not-wrote : goal.back_to-requires-then-not-wrote
back_to-requires-then-not-wrote g c =
    let w = c.args.world.now in
    let marked : IsWorldMarked w c.answer_up_to.new.world.1 = c.answer_up_to.ensures.marks w ([], ap (λ (s : Worlds). s.1) c.in_ok-begun.ensures.marked) in
    omega (arith, ap length marked.1, length-append w.1 (w.0 ∷ marked.0), c.mark_count-mark.ensures)

pub returns-then-not-wrote-clause-made : goal.returns-then-not-wrote-clause-made
returns-then-not-wrote-clause-made g c =
    let functions = g.R.Meaning.Meaning.functions in
    let turn = c.args.self.now in
    let w = c.args.world.now in
    let held = c.answer_up_to.new.self in
    let v = c.answer_up_to.new.world.0 in
    let marked : IsWorldMarked w c.answer_up_to.new.world.1 = c.answer_up_to.ensures.marks w ([], ap (λ (s : Worlds). s.1) c.in_ok-begun.ensures.marked) in
    let back : c.back_to-then-not-wrote.new.self ≡ w = c.back_to-then-not-wrote.ensures.whole w marked.0 marked.1 (sym c.mark_count-mark.ensures) in
    let first : round_in c.new-round.result c.begin.new.world.0 ≡ first_round turn.last w.0 = c.new-round.ensures ∙ ap (λ (s : Worlds). first_round turn.last s.0) c.in_ok-begun.ensures.marked in
    let turned : round_in held v ≡ round_of functions turn w.0 = c.in-Ok.ensures.answered ∙ ap (λ (r : Round). round_after_requests functions r (first_of functions turn.most r turn.requests.now)) first in
    let made = c.in-Ok.ensures.made w.0 (subst (MayBeLogged functions w.0) (sym first) (record { again = refl; fit = tt })) in
    replied_silent functions w.0 (round_of functions turn w.0) held v turned made c.into_parts-replies.result.0 c.into_parts-replies.ensures.answers c.into_parts-replies.ensures.last c.args.batch.now
    c.back_to-then-not-wrote.new.self.0 c.if-not-wrote.true (ap (λ (s : Worlds). s.0) back) c.requires.none

pub returns-then-not-wrote-clause-marks : goal.returns-then-not-wrote-clause-marks
returns-then-not-wrote-clause-marks g c = λ worlds before.
    let w = c.args.world.now in
    let marked : IsWorldMarked w c.answer_up_to.new.world.1 = c.answer_up_to.ensures.marks w ([], ap (λ (s : Worlds). s.1) c.in_ok-begun.ensures.marked) in
    let back : c.back_to-then-not-wrote.new.self ≡ w = c.back_to-then-not-wrote.ensures.whole w marked.0 marked.1 (sym c.mark_count-mark.ensures) in
    subst (λ (s : Worlds). IsWorldMarked worlds s.1) (sym back) before

-- ---- a message wrote

pub returns-clause-made : goal.returns-clause-made
returns-clause-made g c =
    let functions = g.R.Meaning.Meaning.functions in
    let turn = c.args.self.now in
    let w = c.args.world.now in
    let held = c.answer_up_to.new.self in
    let v = c.answer_up_to.new.world.0 in
    let first : round_in c.new-round.result c.begin.new.world.0 ≡ first_round turn.last w.0 = c.new-round.ensures ∙ ap (λ (s : Worlds). first_round turn.last s.0) c.in_ok-begun.ensures.marked in
    let turned : round_in held v ≡ round_of functions turn w.0 = c.in-Ok.ensures.answered ∙ ap (λ (r : Round). round_after_requests functions r (first_of functions turn.most r turn.requests.now)) first in
    let made = c.in-Ok.ensures.made w.0 (subst (MayBeLogged functions w.0) (sym first) (record { again = refl; fit = tt })) in
    replied_written functions w.0 (round_of functions turn w.0) held v turned made c.into_parts-replies.result.0 c.into_parts-replies.ensures.answers c.into_parts-replies.ensures.last c.into_parts-replies.result.1 c.if-not-wrote.false c.into_parts-replies.ensures.batch

pub returns-clause-marks : goal.returns-clause-marks
returns-clause-marks g c = λ worlds before.
    let w = c.args.world.now in
    c.answer_up_to.ensures.marks worlds (marked_more worlds w.1 c.begin.new.world.1 w.0 (ap (λ (s : Worlds). s.1) c.in_ok-begun.ensures.marked) before)
