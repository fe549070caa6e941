use Rattle.std.proofs.Common.{◌+◌, List, map, take, drop, length, refl, sym, ap, subst, ◌∙◌, arith, length-drop}
use Rattle.message_frames.specs.Frames.{sent_frame}
use Rattle.message_frames.specs.declared.frame.MessageFrame.{MessageFrame}
use Rattle.message_laws.proofs.Tidy.{sound_tidy}
use Rattle.message_session.specs.FrameAnswers.{answered_bytes}
use Rattle.message_session.specs.MessageSessions.{AreFramesAnswered}
use Rattle.message_session.specs.Standing.{AnswersMore, FramesComeNext}
use Rattle.message_session.specs.Steps.{Breaks}
use Rattle.message_session.proofs.Causes.{breaks_both}
use Rattle.message_session.proofs.Frames.{answered_both, none_answered}
use Rattle.message_session.proofs.Next.{come_after, more_both, more_none}
use Rattle.message_session.proofs.Slices.{all_taken, behind, front_more, rest_more, whole}
use Rattle.message_session.proofs.answer.answer_frames.Goals as goal

pub fronts-init : goal.fronts-init
fronts-init g c = record {
  within = omega arith;
  macros = refl;
  answered = λ w known.
      none_answered g.R.Meaning.Meaning.functions c.args.course.now.last w (sound_tidy w (c.its_world_is_sound.ensures w known)) g.D.Disk.state c.args.store.now known (g.O.AnswerRecipient.contents c.args.output.now);
  rests = c.requires.rests;
  next = c.requires.next;
  more = more_none (g.O.AnswerRecipient.account c.args.output.now);
  input = refl;
}

pub fronts-preserved : goal.fronts-preserved
fronts-preserved g c =
    let frames = c.args.frames.now in
    let done = c.fronts.done in
    let count = c.in-Ok.count in
    let now = g.O.AnswerRecipient.account c.answer_front.new.output in
    let taken = take count (map sent_frame (drop done frames)) in
    let is = ap (λ (fs : List MessageFrame). take count (map sent_frame fs)) (behind frames done) in
    let more = subst (AnswersMore (g.O.AnswerRecipient.account c.fronts.output) now) is c.in-Ok.ensures.more in
    record {
      within = omega (arith, c.in-Ok.ensures.most, ap length (behind frames done), length-drop done frames, c.fronts.invariant.within);
      macros = c.answer_front.ensures.macros ∙ c.fronts.invariant.macros;
      answered = λ w known.
          let far = c.fronts.invariant.answered w known in
          let functions = g.R.Meaning.Meaning.functions in
          let last = c.args.course.now.last in
          let held = g.O.AnswerRecipient.contents c.args.output.now in
          let between = g.O.AnswerRecipient.contents c.fronts.output in
          let written = g.O.AnswerRecipient.contents c.answer_front.new.output in
          subst (λ fs. AreFramesAnswered functions last w g.D.Disk.state c.answer_front.new.store held written (answered_bytes functions last w) fs c.answer_front.new.course.last) (sym (front_more frames done count))
          (answered_both functions last w (sound_tidy w (c.its_world_is_sound.ensures w known)) g.D.Disk.state c.fronts.store held between
          (map sent_frame (take done frames)) c.fronts.course.last far taken written c.answer_front.new.store c.answer_front.new.course.last
          (subst (λ fs. AreFramesAnswered functions c.fronts.course.last far.after.left g.D.Disk.state c.answer_front.new.store between written (answered_bytes functions c.fronts.course.last far.after.left) fs c.answer_front.new.course.last) is
          (c.in-Ok.ensures.answers far.after.left far.after.known)));
      rests = c.in-Ok.ensures.rests;
      next = come_after (g.O.AnswerRecipient.account c.fronts.output) now taken (map sent_frame (drop (done + count) frames))
          (subst (FramesComeNext (g.O.AnswerRecipient.account c.fronts.output)) (sym (rest_more frames done count)) c.fronts.invariant.next) more;
      more = subst (AnswersMore (g.O.AnswerRecipient.account c.args.output.now) now) (sym (front_more frames done count))
          (more_both (g.O.AnswerRecipient.account c.args.output.now) (g.O.AnswerRecipient.account c.fronts.output) now (map sent_frame (take done frames)) taken c.fronts.invariant.more more);
      input = c.answer_front.ensures.input ∙ c.fronts.invariant.input;
    }

pub returns-in-Err-clause-answers : goal.returns-in-Err-clause-answers
returns-in-Err-clause-answers g c = λ w known.
    let far = c.fronts.invariant.answered w known in
    let functions = g.R.Meaning.Meaning.functions in
    let last = c.args.course.now.last in
    let held = g.O.AnswerRecipient.contents c.args.output.now in
    let between = g.O.AnswerRecipient.contents c.fronts.output in
    let written = g.O.AnswerRecipient.contents c.answer_front.new.output in
    let frames = c.args.frames.now in
    let done = c.fronts.done in
    subst (λ fs. Breaks functions last w g.D.Disk.state c.answer_front.new.store held written fs c.in-Err.ended) (whole frames done)
    (breaks_both functions last w (sound_tidy w (c.its_world_is_sound.ensures w known)) g.D.Disk.state c.fronts.store held between (map sent_frame (take done frames)) c.fronts.course.last far written c.answer_front.new.store
    (map sent_frame (drop done frames)) c.in-Err.ended
    (subst (λ fs. Breaks functions c.fronts.course.last far.after.left g.D.Disk.state c.answer_front.new.store between written fs c.in-Err.ended) (ap (map sent_frame) (behind frames done))
    (c.in-Err.ensures.answers far.after.left far.after.known)))

pub returns-clause-answers : goal.returns-clause-answers
returns-clause-answers g c = λ w known.
    let functions = g.R.Meaning.Meaning.functions in
    let last = c.args.course.now.last in
    subst (λ fs. AreFramesAnswered functions last w g.D.Disk.state c.fronts.store (g.O.AnswerRecipient.contents c.args.output.now) (g.O.AnswerRecipient.contents c.fronts.output) (answered_bytes functions last w) fs c.fronts.course.last)
    (all_taken c.args.frames.now c.fronts.done (omega (arith, c.fronts-test.false)))
    (c.fronts.invariant.answered w known)

pub returns-clause-more : goal.returns-clause-more
returns-clause-more g c =
    subst (AnswersMore (g.O.AnswerRecipient.account c.args.output.now) (g.O.AnswerRecipient.account c.fronts.output)) (all_taken c.args.frames.now c.fronts.done (omega (arith, c.fronts-test.false))) c.fronts.invariant.more

pub answer_front-requires-clause-next : goal.answer_front-requires-clause-next
answer_front-requires-clause-next g c =
    subst (λ (fs : List MessageFrame). FramesComeNext (g.O.AnswerRecipient.account c.fronts.output) (map sent_frame fs)) (sym (behind c.args.frames.now c.fronts.done)) c.fronts.invariant.next
