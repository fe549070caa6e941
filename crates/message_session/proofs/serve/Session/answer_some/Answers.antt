use Rattle.std.proofs.Common.{◌≡◌, ℕ, ◌<◌, List, length, map, drop, sym, subst}
use Rattle.std.specs.Borrow.{Bor}
use Rattle.message_frames.specs.Frames.{AreFrames, sent_frame}
use Rattle.message_frames.specs.declared.frame.MessageFrame.{MessageFrame}
use Rattle.message_laws.proofs.Tidy.{sound_tidy}
use Rattle.message_session.specs.MessageSessions.{text_limit}
use Rattle.message_session.specs.Steps.{ComesAfter}
use Rattle.message_session.proofs.Causes.{breaks_in_none, breaks_of}
use Rattle.message_session.proofs.Held.{comes_after, shorter}
use Rattle.message_session.proofs.Next.{next_of_bytes}
use Rattle.message_session.proofs.Standing.{none_at_rest}
use Rattle.message_session.proofs.serve.Session.answer_some.Goals as goal

pub returns-clause-answers : goal.returns-clause-answers
returns-clause-answers g c = λ w known.
    let held = c.args.self.now.held in
    let whole = c.in-Ok.ensures.whole in (
      map sent_frame c.as_slice-frames.result.now,
      record {
        parts = subst (λ rest. AreFrames text_limit (map sent_frame c.as_slice-frames.result.now) rest held) (sym c.pass.ensures)
            (subst (λ (fs : List MessageFrame). AreFrames text_limit (map sent_frame fs) (drop c.in-Ok.whole.bytes held) held) (sym c.as_slice-frames.ensures.value) whole.frames);
        answered = c.in-Ok-answer_frames.ensures.answers w known;
      },
      subst (λ rest. ComesAfter (map sent_frame c.as_slice-frames.result.now) rest c.in-Ok.whole.next) (sym c.pass.ensures)
          (subst (λ (fs : List MessageFrame). ComesAfter (map sent_frame fs) (drop c.in-Ok.whole.bytes held) c.in-Ok.whole.next) (sym c.as_slice-frames.ensures.value)
          (comes_after c.most-most.result c.in-Ok.whole.frames.items (drop c.in-Ok.whole.bytes held) c.in-Ok.whole.next c.most-most.ensures whole.follows)),
    )

pub returns-clause-fewer : goal.returns-clause-fewer
returns-clause-fewer g c = λ unread.
    let held = c.args.self.now.held in
    let whole = c.in-Ok.ensures.whole in
    let items = c.in-Ok.whole.frames.items in
    let rest = drop c.in-Ok.whole.bytes held in
    subst (λ (left : List ℕ). length left < length held) (sym c.pass.ensures)
    (shorter (map sent_frame items) rest held
    (subst (ComesAfter (map sent_frame items) rest) unread (comes_after c.most-most.result items rest c.in-Ok.whole.next c.most-most.ensures whole.follows))
    whole.frames.parts)

pub returns-in_default-clause-rests : goal.returns-in_default-clause-rests
returns-in_default-clause-rests g c = none_at_rest g.R.Meaning.Meaning.functions g.D.Disk.state g.met.D.Disk.sound (g.O.AnswerRecipient.account c.args.output.now) c.args.store.now c.args.self.now.course.last c.requires.rests

pub returns-in_default-clause-answers : goal.returns-in_default-clause-answers
returns-in_default-clause-answers g c = λ w known.
    breaks_in_none g.R.Meaning.Meaning.functions c.args.self.now.course.last w (sound_tidy w (c.its_world_is_sound.ensures w known)) g.D.Disk.state c.args.store.now (g.O.AnswerRecipient.contents c.args.output.now) c.args.self.now.held known

-- the frames that stand whole
parts_of : (bytes : List ℕ) (items : List MessageFrame) (frames : Bor (List MessageFrame)) (rest : List ℕ) → frames.now ≡ items → AreFrames text_limit (map sent_frame items) rest bytes → AreFrames text_limit (map sent_frame frames.now) rest bytes
parts_of bytes items frames rest same parts = subst (λ (fs : List MessageFrame). AreFrames text_limit (map sent_frame fs) rest bytes) (sym same) parts

pub returns-in-Err-clause-answers : goal.returns-in-Err-clause-answers
returns-in-Err-clause-answers g c = λ w known.
    let held = c.args.self.now.held in
    let rest = drop c.in-Ok.whole.bytes held in
    breaks_of g.R.Meaning.Meaning.functions c.args.self.now.course.last w (sound_tidy w (c.its_world_is_sound.ensures w known)) g.D.Disk.state c.answer_frames.new.store
    (g.O.AnswerRecipient.contents c.args.output.now) (g.O.AnswerRecipient.contents c.answer_frames.new.output) (map sent_frame c.as_slice-frames.result.now) rest held c.in-Err.ended
    (parts_of held c.in-Ok.whole.frames.items c.as_slice-frames.result rest c.as_slice-frames.ensures.value c.in-Ok.ensures.whole.frames)
    (c.in-Err.ensures.answers w known)

pub answer_frames-requires-clause-next : goal.answer_frames-requires-clause-next
answer_frames-requires-clause-next g c = λ account is.
    let held = c.args.self.now.held in
    let rest = drop c.in-Ok.whole.bytes held in
    next_of_bytes account held (map sent_frame c.as_slice-frames.result.now) rest (c.requires.next account is)
    (parts_of held c.in-Ok.whole.frames.items c.as_slice-frames.result rest c.as_slice-frames.ensures.value c.in-Ok.ensures.whole.frames)

pub returns-clause-more : goal.returns-clause-more
returns-clause-more g c =
    let held = c.args.self.now.held in
    let rest = drop c.in-Ok.whole.bytes held in (
      map sent_frame c.as_slice-frames.result.now,
      subst (λ left. AreFrames text_limit (map sent_frame c.as_slice-frames.result.now) left held) (sym c.pass.ensures)
          (parts_of held c.in-Ok.whole.frames.items c.as_slice-frames.result rest c.as_slice-frames.ensures.value c.in-Ok.ensures.whole.frames),
      c.in-Ok-answer_frames.ensures.more,
    )
