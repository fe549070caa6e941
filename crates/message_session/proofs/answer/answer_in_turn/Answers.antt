use Rattle.std.proofs.Common.{◌≡◌, ℕ, ◌+◌, List, ◌++◌, map, take, drop, refl, sym, ap, subst, ◌∙◌, arith}
use Rattle.message_frames.specs.Frames.{sent_frame}
use Rattle.message_frames.specs.declared.frame.MessageFrame.{MessageFrame}
use Rattle.message_laws.proofs.Tidy.{sound_tidy}
use Rattle.message_session.specs.FrameAnswers.{answered_bytes}
use Rattle.message_session.specs.MessageSessions.{AreFramesAnswered}
use Rattle.message_session.specs.Standing.{AnswersMore, FramesComeNext}
use Rattle.message_session.specs.Steps.{Breaks, ended_by}
use Rattle.message_session.proofs.Causes.{breaks_both, breaks_more}
use Rattle.message_session.proofs.Frames.{answered_both, none_answered}
use Rattle.message_session.proofs.Next.{come_after, come_first, more_both, more_none}
use Rattle.message_session.proofs.Slices.{as_first, as_many_taken, at_place, front_more, one_taken, one_there, rest_more, whole}
use Rattle.message_session.proofs.Standing.{stops_end}
use Rattle.message_session.proofs.Stops.{one_stopped}
use Rattle.message_session.proofs.answer.answer_in_turn.Goals as goal

-- one frame more
one_more : (frames : List MessageFrame) (i : ℕ) → map sent_frame (take (i + 1) frames) ≡ map sent_frame (take i frames) ++ at_place i frames
one_more frames i = front_more frames i 1 ∙ ap (λ l. map sent_frame (take i frames) ++ l) (sym (as_first frames i))

-- those that are left
others : (frames : List MessageFrame) (i : ℕ) → at_place i frames ++ map sent_frame (drop (i + 1) frames) ≡ map sent_frame (drop i frames)
others frames i = ap (λ l. l ++ map sent_frame (drop (i + 1) frames)) (as_first frames i) ∙ rest_more frames i 1

-- all of them
all_of : (frames : List MessageFrame) (i : ℕ) → (map sent_frame (take i frames) ++ at_place i frames) ++ map sent_frame (drop (i + 1) frames) ≡ map sent_frame frames
all_of frames i = ap (λ l. l ++ map sent_frame (drop (i + 1) frames)) (sym (one_more frames i)) ∙ whole frames (i + 1)

pub frames-init : goal.frames-init
frames-init g c = record {
  macros = refl;
  answered = λ w known.
      none_answered g.R.Meaning.Meaning.functions c.args.course.now.last w (sound_tidy w (c.its_world_is_sound.ensures w known)) g.D.Disk.state c.args.store.now known (g.O.AnswerRecipient.contents c.args.output.now);
  rests = c.requires.rests;
  next = c.requires.next;
  more = more_none (g.O.AnswerRecipient.account c.args.output.now);
  input = refl;
}

pub take_with_room-requires-clause-next : goal.take_with_room-requires-clause-next
take_with_room-requires-clause-next g c =
    come_first (g.O.AnswerRecipient.account c.frames.output) (at_place c.frames.i c.args.frames.now) (map sent_frame (drop (c.frames.i + 1) c.args.frames.now))
    (subst (FramesComeNext (g.O.AnswerRecipient.account c.frames.output)) (sym (others c.args.frames.now c.frames.i)) c.frames.invariant.next)

pub returns-in-Err-clause-answers : goal.returns-in-Err-clause-answers
returns-in-Err-clause-answers g c = λ w known.
    let far = c.frames.invariant.answered w known in
    let functions = g.R.Meaning.Meaning.functions in
    let last = c.args.course.now.last in
    let tidy = sound_tidy w (c.its_world_is_sound.ensures w known) in
    let held = g.O.AnswerRecipient.contents c.args.output.now in
    let between = g.O.AnswerRecipient.contents c.frames.output in
    let written = g.O.AnswerRecipient.contents c.take_with_room.new.output in
    let front = map sent_frame (take c.frames.i c.args.frames.now) in
    let one = at_place c.frames.i c.args.frames.now in
    let ended = ended_by c.in-Err.stop in
    let breaks = one_stopped functions c.frames.course.last far.after.left g.D.Disk.state c.take_with_room.new.store between written
    c.take_with_room.new.course.last one c.in-Err.stop (one_there c.args.frames.now c.frames.i (omega (arith, c.frames-test.true))) (c.in-Err.ensures.takes far.after.left far.after.known) in
    let both = breaks_both functions last w tidy g.D.Disk.state c.frames.store held between front c.frames.course.last far written c.take_with_room.new.store one ended breaks in
    let all = breaks_more functions last w tidy g.D.Disk.state c.take_with_room.new.store held written (front ++ one) (map sent_frame (drop (c.frames.i + 1) c.args.frames.now)) ended both in
    subst (λ e. Breaks functions last w g.D.Disk.state c.take_with_room.new.store held written (map sent_frame c.args.frames.now) e) (sym c.ended.ensures)
    (subst (λ fs. Breaks functions last w g.D.Disk.state c.take_with_room.new.store held written fs ended) (all_of c.args.frames.now c.frames.i) all)

pub frames-preserved : goal.frames-preserved
frames-preserved g c =
    let frames = c.args.frames.now in
    let one = one_taken frames c.frames.i c.in-Ok.field-0 c.in-Ok.ensures.some in
    let now = g.O.AnswerRecipient.account c.take_with_room.new.output in
    let more = subst (AnswersMore (g.O.AnswerRecipient.account c.frames.output) now) one c.in-Ok.ensures.more in
    record {
      macros = c.take_with_room.ensures.macros ∙ c.frames.invariant.macros;
      answered = λ w known.
          let far = c.frames.invariant.answered w known in
          let functions = g.R.Meaning.Meaning.functions in
          let last = c.args.course.now.last in
          let held = g.O.AnswerRecipient.contents c.args.output.now in
          let between = g.O.AnswerRecipient.contents c.frames.output in
          let written = g.O.AnswerRecipient.contents c.take_with_room.new.output in
          subst (λ fs. AreFramesAnswered functions last w g.D.Disk.state c.take_with_room.new.store held written (answered_bytes functions last w) fs c.take_with_room.new.course.last) (sym (one_more frames c.frames.i))
          (answered_both functions last w (sound_tidy w (c.its_world_is_sound.ensures w known)) g.D.Disk.state c.frames.store held between
          (map sent_frame (take c.frames.i frames)) c.frames.course.last far (at_place c.frames.i frames) written c.take_with_room.new.store c.take_with_room.new.course.last
          (subst (λ fs. AreFramesAnswered functions c.frames.course.last far.after.left g.D.Disk.state c.take_with_room.new.store between written (answered_bytes functions c.frames.course.last far.after.left) fs c.take_with_room.new.course.last) one
          (c.in-Ok.ensures.takes far.after.left far.after.known)));
      rests = c.in-Ok.ensures.rests;
      next = come_after (g.O.AnswerRecipient.account c.frames.output) now (at_place c.frames.i frames) (map sent_frame (drop (c.frames.i + 1) frames))
          (subst (FramesComeNext (g.O.AnswerRecipient.account c.frames.output)) (sym (others frames c.frames.i)) c.frames.invariant.next) more;
      more = subst (AnswersMore (g.O.AnswerRecipient.account c.args.output.now) now) (sym (one_more frames c.frames.i))
          (more_both (g.O.AnswerRecipient.account c.args.output.now) (g.O.AnswerRecipient.account c.frames.output) now (map sent_frame (take c.frames.i frames)) (at_place c.frames.i frames) c.frames.invariant.more more);
      input = c.take_with_room.ensures.input ∙ c.frames.invariant.input;
    }

pub returns-in-Err-clause-rests : goal.returns-in-Err-clause-rests
returns-in-Err-clause-rests g c =
    stops_end g.R.Meaning.Meaning.functions g.D.Disk.state g.met.D.Disk.sound (g.O.AnswerRecipient.account c.take_with_room.new.output) c.take_with_room.new.store c.take_with_room.new.course.last c.in-Err.stop
    c.in-Err.ensures.rests

pub returns-clause-answers : goal.returns-clause-answers
returns-clause-answers g c = λ w known.
    let functions = g.R.Meaning.Meaning.functions in
    let last = c.args.course.now.last in
    subst (λ fs. AreFramesAnswered functions last w g.D.Disk.state c.frames.store (g.O.AnswerRecipient.contents c.args.output.now) (g.O.AnswerRecipient.contents c.frames.output) (answered_bytes functions last w) fs c.frames.course.last)
    (as_many_taken c.args.frames.now c.frames.i _ (omega (arith, c.frames-test.false)) refl)
    (c.frames.invariant.answered w known)

pub returns-clause-more : goal.returns-clause-more
returns-clause-more g c =
    subst (AnswersMore (g.O.AnswerRecipient.account c.args.output.now) (g.O.AnswerRecipient.account c.frames.output))
    (as_many_taken c.args.frames.now c.frames.i _ (omega (arith, c.frames-test.false)) refl) c.frames.invariant.more
