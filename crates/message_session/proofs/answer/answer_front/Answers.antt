use Rattle.std.proofs.Common.{◌≡◌, Err, map, subst, ℕ, List, Result, take}
use Rattle.std.specs.Prelude.{IfOk}
use Rattle.message_frames.specs.Frames.{sent_frame}
use Rattle.message_frames.specs.declared.frame.MessageFrame.{MessageFrame}
use Rattle.message_session.specs.Standing.{AnswersMore, RestsOrStops}
use Rattle.message_session.specs.Steps.{TakesWithRoom}
use Rattle.message_session.specs.declared.ended.MessagesEnd.{MessagesEnd}
use Rattle.message_session.proofs.Standing.{untaken_rests}
use Rattle.message_session.proofs.Stops.{tried_again}
use Rattle.message_session.proofs.answer.answer_front.Given.{Over}
use Rattle.message_session.proofs.answer.answer_front.Goals as goal

-- what was answered since, where nothing was written before
moved : (g : Over) (first between last : g.row.O.Denot) (frames : List MessageFrame) (result : Result ℕ MessagesEnd) → between ≡ first
    → IfOk result (λ count. AnswersMore (g.O.AnswerRecipient.account between) (g.O.AnswerRecipient.account last) (take count (map sent_frame frames)))
    → IfOk result (λ count. AnswersMore (g.O.AnswerRecipient.account first) (g.O.AnswerRecipient.account last) (take count (map sent_frame frames)))
moved g first between last frames result same more =
    subst (λ (o : g.row.O.Denot). IfOk result (λ count. AnswersMore (g.O.AnswerRecipient.account o) (g.O.AnswerRecipient.account last) (take count (map sent_frame frames)))) same more

pub returns-in-Untaken-clause-answers : goal.returns-in-Untaken-clause-answers
returns-in-Untaken-clause-answers g c = λ w known.
    let functions = g.R.Meaning.Meaning.functions in
    let frames = map sent_frame c.args.frames.now in
    let last = c.args.course.now.last in
    let held = g.O.AnswerRecipient.contents c.args.output.now in
    let between = g.O.AnswerRecipient.contents c.take_with_room.new.output in
    let takes = subst (λ s. TakesWithRoom functions last w g.D.Disk.state c.take_with_room.new.store held between c.take_with_room.new.course.last frames (Err s)) c.in-Untaken.is (c.in-Err.ensures.takes w known) in
    tried_again functions last w g.D.Disk.state c.answer_in_turn.new.store held between (g.O.AnswerRecipient.contents c.answer_in_turn.new.output)
    c.take_with_room.new.course.last c.answer_in_turn.new.course.last frames c.answer_in_turn.result takes.0 takes.1 (c.answer_in_turn.ensures.answers w takes.2)

pub returns-in-Ended-clause-answers : goal.returns-in-Ended-clause-answers
returns-in-Ended-clause-answers g c = λ w known.
    subst (λ s. TakesWithRoom g.R.Meaning.Meaning.functions c.args.course.now.last w g.D.Disk.state c.take_with_room.new.store (g.O.AnswerRecipient.contents c.args.output.now)
    (g.O.AnswerRecipient.contents c.take_with_room.new.output) c.take_with_room.new.course.last (map sent_frame c.args.frames.now) (Err s)) c.in-Ended.is (c.in-Err.ensures.takes w known)

pub returns-in-Untaken-clause-more : goal.returns-in-Untaken-clause-more
returns-in-Untaken-clause-more g c = moved g c.args.output.now c.take_with_room.new.output c.answer_in_turn.new.output c.args.frames.now c.answer_in_turn.result (c.in-Err.ensures.untouched c.in-Untaken.field-0 c.in-Untaken.is) c.answer_in_turn.ensures.more

-- ---- the recipient

pub answer_in_turn-requires-clause-rests : goal.answer_in_turn-requires-clause-rests
answer_in_turn-requires-clause-rests g c =
    untaken_rests g.R.Meaning.Meaning.functions g.D.Disk.state g.met.D.Disk.sound (g.O.AnswerRecipient.account c.take_with_room.new.output) c.take_with_room.new.store c.take_with_room.new.course.last
    c.in-Err.stop c.in-Untaken.field-0 c.in-Untaken.is c.in-Err.ensures.rests

pub returns-in-Ended-clause-rests : goal.returns-in-Ended-clause-rests
returns-in-Ended-clause-rests g c =
    subst (λ s. RestsOrStops g.R.Meaning.Meaning.functions g.D.Disk.state (g.O.AnswerRecipient.account c.take_with_room.new.output) c.take_with_room.new.store c.take_with_room.new.course.last (Err s)) c.in-Ended.is c.in-Err.ensures.rests
