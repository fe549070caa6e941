use Rattle.std.proofs.Common.{◌≡◌, ℕ, List, Some, Result, Err, map, take, subst, arith}
use Rattle.std.specs.Prelude.{IfOk}
use Rattle.lisp_object.specs.declared.refusal.TheConstants.{LOG_FULL}
use Rattle.message_frames.specs.Frames.{sent_frame}
use Rattle.message_frames.specs.declared.frame.MessageFrame.{MessageFrame}
use Rattle.message_laws.proofs.Tidy.{sound_tidy}
use Rattle.message_session.specs.Standing.{AnswersMore, RestsAt, RestsOrStops}
use Rattle.message_session.specs.Steps.{RefusesFirst, TakesFrames}
use Rattle.message_session.specs.declared.answer.Stop.{Stop}
use Rattle.message_session.proofs.Causes.{breaks_roomless}
use Rattle.message_session.proofs.Standing.{large_keeps, none_further, rests_further, snapshot_survives, untaken_rests}
use Rattle.message_session.proofs.Stops.{full_anew, roomless_left, taken_again, taken_with_room, untaken_with_room}
use Rattle.plist_state.specs.State.{WorldState}
use Rattle.prevalence_store.specs.calls.Snapshot.{Snapshots}
use Rattle.prevalence_store.specs.declared.outcome.Outcome.TheVariants.{Refused}
use Rattle.message_session.proofs.answer.take_with_room.Given.{Over}
use Rattle.message_session.proofs.answer.take_with_room.Goals as goal
use Rattle.message_session.proofs.answer.take_with_room.Goals.{In-Untaken}

-- ---- there was no room: nothing came of them

left : (g : Over) (c : In-Untaken g) → c.in-Untaken.why ≡ LOG_FULL → (w : WorldState) → c.args.store.now.world ≡ Some w
    → (g.O.AnswerRecipient.contents c.take_frames.new.output ≡ g.O.AnswerRecipient.contents c.args.output.now) × (c.take_frames.new.course.last ≡ c.args.course.now.last) × (c.take_frames.new.store.world ≡ Some w)
    × RefusesFirst g.R.Meaning.Meaning.functions c.args.course.now.last w g.D.Disk.state c.take_frames.new.store (map sent_frame c.args.frames.now) LOG_FULL
left g c full w known =
    roomless_left g.R.Meaning.Meaning.functions c.args.course.now.last w (sound_tidy w (c.its_world_is_sound.ensures w known)) g.D.Disk.state c.args.store.now c.take_frames.new.store known
    (g.O.AnswerRecipient.contents c.args.output.now) (g.O.AnswerRecipient.contents c.take_frames.new.output) c.take_frames.new.course.last (map sent_frame c.args.frames.now) c.in-Err.stop c.in-Untaken.why
    c.in-Untaken.is full (c.in-Err.ensures.takes w known)

rested : (g : Over) (c : In-Untaken g) → RestsAt g.R.Meaning.Meaning.functions g.D.Disk.state (g.O.AnswerRecipient.account c.take_frames.new.output) c.take_frames.new.store c.take_frames.new.course.last
rested g c =
    untaken_rests g.R.Meaning.Meaning.functions g.D.Disk.state g.met.D.Disk.sound (g.O.AnswerRecipient.account c.take_frames.new.output) c.take_frames.new.store c.take_frames.new.course.last
    c.in-Err.stop c.in-Untaken.why c.in-Untaken.is c.in-Err.ensures.rests

quiet : (g : Over) (c : In-Untaken g) → c.take_frames.new.output ≡ c.args.output.now
quiet g c = c.in-Err.ensures.untouched c.in-Untaken.why c.in-Untaken.is

-- ---- and no snapshot for it

pub returns-in-Err-eq65-clause-takes : goal.returns-in-Err-eq65-clause-takes
returns-in-Err-eq65-clause-takes g c = λ w known.
    let functions = g.R.Meaning.Meaning.functions in
    let nothing = left g (goal.at.returns-in-Err-eq65-clause-takes g c).In-Untaken (omega (arith, c.if-why-ne-LOG_FULL.false)) w known in
    let refused = subst (λ n. Snapshots functions g.D.Disk.state c.take_frames.new.store c.renew_for_room.new.store w (Refused n)) c.in-Err-eq65.field-0-test (c.in-Err-eq65.ensures.renews w nothing.2) in (
      nothing.0,
      nothing.1,
      large_keeps functions g.D.Disk.state c.take_frames.new.store c.renew_for_room.new.store w c.in-Err-eq65.field-0 c.in-Err-eq65.field-0-test (c.in-Err-eq65.ensures.renews w nothing.2) nothing.2,
      λ one. breaks_roomless functions c.args.course.now.last w (sound_tidy w (c.its_world_is_sound.ensures w known)) g.D.Disk.state c.take_frames.new.store c.renew_for_room.new.store nothing.2
          (g.O.AnswerRecipient.contents c.args.output.now) (g.O.AnswerRecipient.contents c.take_frames.new.output) nothing.0 (map sent_frame c.args.frames.now) 65 nothing.3 (λ _. one) refused,
    )

pub returns-in-Err-eq65-clause-rests : goal.returns-in-Err-eq65-clause-rests
returns-in-Err-eq65-clause-rests g c =
    let functions = g.R.Meaning.Meaning.functions in
    rests_further functions g.D.Disk.state g.met.D.Disk.sound (g.O.AnswerRecipient.account c.take_frames.new.output) c.take_frames.new.store c.renew_for_room.new.store c.take_frames.new.course.last
    (rested g (goal.at.returns-in-Err-eq65-clause-rests g c).In-Untaken)
    (λ w known. large_keeps functions g.D.Disk.state c.take_frames.new.store c.renew_for_room.new.store w c.in-Err-eq65.field-0 c.in-Err-eq65.field-0-test (c.in-Err-eq65.ensures.renews w known) known)
    (λ w known. snapshot_survives functions g.D.Disk.state c.take_frames.new.store c.renew_for_room.new.store w (Refused c.in-Err-eq65.field-0) (c.in-Err-eq65.ensures.renews w known))

pub returns-in-Err-renew_for_room-clause-takes : goal.returns-in-Err-renew_for_room-clause-takes
returns-in-Err-renew_for_room-clause-takes g c = λ w known.
    let nothing = left g (goal.at.returns-in-Err-renew_for_room-clause-takes g c).In-Untaken (omega (arith, c.if-why-ne-LOG_FULL.false)) w known in
    breaks_roomless g.R.Meaning.Meaning.functions c.args.course.now.last w (sound_tidy w (c.its_world_is_sound.ensures w known)) g.D.Disk.state c.take_frames.new.store c.renew_for_room.new.store nothing.2
    (g.O.AnswerRecipient.contents c.args.output.now) (g.O.AnswerRecipient.contents c.take_frames.new.output) nothing.0 (map sent_frame c.args.frames.now) c.in-Err-renew_for_room.number nothing.3
    (λ large. absurd (omega (arith, large, c.in-Err-renew_for_room.number-test))) (c.in-Err-renew_for_room.ensures.renews w nothing.2)

pub returns-in-Err-renew_for_room-clause-rests : goal.returns-in-Err-renew_for_room-clause-rests
returns-in-Err-renew_for_room-clause-rests g c =
    let functions = g.R.Meaning.Meaning.functions in
    none_further functions g.D.Disk.state g.met.D.Disk.sound (g.O.AnswerRecipient.account c.take_frames.new.output) c.take_frames.new.store c.renew_for_room.new.store c.take_frames.new.course.last
    (rested g (goal.at.returns-in-Err-renew_for_room-clause-rests g c).In-Untaken)
    (λ w known. snapshot_survives functions g.D.Disk.state c.take_frames.new.store c.renew_for_room.new.store w (Refused c.in-Err-renew_for_room.number) (c.in-Err-renew_for_room.ensures.renews w known))

-- ---- once more, after a snapshot

pub take_frames-requires-2-clause-rests : goal.take_frames-requires-2-clause-rests
take_frames-requires-2-clause-rests g c =
    rests_further g.R.Meaning.Meaning.functions g.D.Disk.state g.met.D.Disk.sound (g.O.AnswerRecipient.account c.take_frames.new.output) c.take_frames.new.store c.renew_for_room.new.store c.take_frames.new.course.last
    (rested g (goal.at.take_frames-requires-2-clause-rests g c).In-Untaken)
    (λ w known. (c.in-Ok-renew_for_room.ensures.renews w known).renews.left) (λ w known. (c.in-Ok-renew_for_room.ensures.renews w known).survives)

pub returns-clause-takes : goal.returns-clause-takes
returns-clause-takes g c = λ w known.
    let functions = g.R.Meaning.Meaning.functions in
    let nothing = left g (goal.at.returns-clause-takes g c).In-Untaken (omega (arith, c.if-why-ne-LOG_FULL.false)) w known in
    let renewed = c.in-Ok-renew_for_room.ensures.renews w nothing.2 in
    let frames = map sent_frame c.args.frames.now in
    let held = g.O.AnswerRecipient.contents c.args.output.now in
    let between = g.O.AnswerRecipient.contents c.take_frames.new.output in
    let written = g.O.AnswerRecipient.contents c.take_frames-2.new.output in
    let mid_last = c.take_frames.new.course.last in
    let now_last = c.take_frames-2.new.course.last in
    let new = c.take_frames-2.new.store in
    taken_again functions c.args.course.now.last w g.D.Disk.state new held between written mid_last now_last frames c.take_frames-2.result nothing.0 nothing.1
    (taken_with_room functions mid_last w (sound_tidy w (c.its_world_is_sound.ensures w known)) g.D.Disk.state c.renew_for_room.new.store new renewed.renews.left between written now_last frames
    c.take_frames-2.result (full_anew functions g.D.Disk.state c.take_frames.new.store c.renew_for_room.new.store w frames renewed) (c.take_frames-2.ensures.takes w renewed.renews.left))

-- where nothing was written before
moved : (g : Over) (first between last : g.row.O.Denot) (frames : List MessageFrame) (result : Result ℕ Stop) → between ≡ first
    → IfOk result (λ count. AnswersMore (g.O.AnswerRecipient.account between) (g.O.AnswerRecipient.account last) (take count (map sent_frame frames)))
    → IfOk result (λ count. AnswersMore (g.O.AnswerRecipient.account first) (g.O.AnswerRecipient.account last) (take count (map sent_frame frames)))
moved g first between last frames result same more =
    subst (λ (o : g.row.O.Denot). IfOk result (λ count. AnswersMore (g.O.AnswerRecipient.account o) (g.O.AnswerRecipient.account last) (take count (map sent_frame frames)))) same more

pub returns-clause-more : goal.returns-clause-more
returns-clause-more g c =
    moved g c.args.output.now c.take_frames.new.output c.take_frames-2.new.output c.args.frames.now c.take_frames-2.result
    (quiet g (goal.at.returns-clause-more g c).In-Untaken) c.take_frames-2.ensures.more

-- ---- for another reason

pub returns-then-why-ne-LOG_FULL-clause-takes : goal.returns-then-why-ne-LOG_FULL-clause-takes
returns-then-why-ne-LOG_FULL-clause-takes g c = λ w known.
    let functions = g.R.Meaning.Meaning.functions in
    let last = c.args.course.now.last in
    let held = g.O.AnswerRecipient.contents c.args.output.now in
    let written = g.O.AnswerRecipient.contents c.take_frames.new.output in
    untaken_with_room functions last w (sound_tidy w (c.its_world_is_sound.ensures w known)) g.D.Disk.state c.args.store.now c.take_frames.new.store known held written c.take_frames.new.course.last (map sent_frame c.args.frames.now)
    c.in-Untaken.why (λ full. absurd (omega (arith, full, c.if-why-ne-LOG_FULL.true)))
    (subst (λ s. TakesFrames functions last w g.D.Disk.state c.take_frames.new.store held written c.take_frames.new.course.last c.args.store.now (map sent_frame c.args.frames.now) (Err s)) c.in-Untaken.is (c.in-Err.ensures.takes w known))

pub returns-in-Ended-clause-takes : goal.returns-in-Ended-clause-takes
returns-in-Ended-clause-takes g c = λ w known.
    subst (λ s. TakesFrames g.R.Meaning.Meaning.functions c.args.course.now.last w g.D.Disk.state c.take_frames.new.store (g.O.AnswerRecipient.contents c.args.output.now) (g.O.AnswerRecipient.contents c.take_frames.new.output)
    c.take_frames.new.course.last c.args.store.now (map sent_frame c.args.frames.now) (Err s)) c.in-Ended.is (c.in-Err.ensures.takes w known)

pub returns-in-Ended-clause-rests : goal.returns-in-Ended-clause-rests
returns-in-Ended-clause-rests g c =
    subst (λ s. RestsOrStops g.R.Meaning.Meaning.functions g.D.Disk.state (g.O.AnswerRecipient.account c.take_frames.new.output) c.take_frames.new.store c.take_frames.new.course.last (Err s)) c.in-Ended.is c.in-Err.ensures.rests
