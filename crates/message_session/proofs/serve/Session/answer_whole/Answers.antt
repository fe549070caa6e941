use Rattle.std.proofs.Common.{[], ◌++◌, refl, subst, ◌∙◌}
use Rattle.message_laws.proofs.Tidy.{sound_tidy}
use Rattle.message_session.specs.Steps.{ComesAfter}
use Rattle.message_session.proofs.Causes.{breaks_in_both}
use Rattle.message_session.proofs.Frames.{none_served, serves_both}
use Rattle.message_session.proofs.Next.{bytes_after, first_both, first_none}
use Rattle.message_session.proofs.serve.Session.answer_whole.Goals as goal

pub rounds-init : goal.rounds-init
rounds-init g c = record {
  macros = refl;
  answered = λ w known. (
    [],
    none_served g.R.Meaning.Meaning.functions c.args.self.now.course.last w (sound_tidy w (c.its_world_is_sound.ensures w known)) g.D.Disk.state c.args.store.now known (g.O.AnswerRecipient.contents c.args.output.now) c.args.self.now.held,
  );
  rests = c.requires.rests;
  next = c.requires.next;
  more = first_none (g.O.AnswerRecipient.account c.args.output.now) c.args.self.now.held;
  input = refl;
}

pub rounds-preserved : goal.rounds-preserved
rounds-preserved g c = record {
  macros = c.answer_some.ensures.macros ∙ c.rounds.invariant.macros;
  answered = λ w known.
      let far = c.rounds.invariant.answered w known in
      let some = c.in-Ok-Unread.ensures.answers far.1.answered.after.left far.1.answered.after.known in (
        far.0 ++ some.0,
        serves_both g.R.Meaning.Meaning.functions c.args.self.now.course.last w (sound_tidy w (c.its_world_is_sound.ensures w known)) g.D.Disk.state c.rounds.store
            (g.O.AnswerRecipient.contents c.args.output.now) (g.O.AnswerRecipient.contents c.rounds.output) (g.O.AnswerRecipient.contents c.answer_some.new.output)
            c.args.self.now.held far.0 c.rounds.self.held c.rounds.self.course.last far.1
            c.answer_some.new.store c.answer_some.new.self.course.last some.0 c.answer_some.new.self.held some.1,
      );
  rests = c.in-Ok-Unread.ensures.rests;
  next = bytes_after (g.O.AnswerRecipient.account c.rounds.output) (g.O.AnswerRecipient.account c.answer_some.new.output) c.rounds.self.held c.answer_some.new.self.held c.rounds.invariant.next c.in-Ok-Unread.ensures.more;
  more = first_both (g.O.AnswerRecipient.account c.args.output.now) (g.O.AnswerRecipient.account c.rounds.output) (g.O.AnswerRecipient.account c.answer_some.new.output)
      c.args.self.now.held c.rounds.self.held c.answer_some.new.self.held c.rounds.invariant.more c.in-Ok-Unread.ensures.more;
  input = c.answer_some.ensures.input ∙ c.rounds.invariant.input;
}

pub returns-in-Ok-Begun-clause-more : goal.returns-in-Ok-Begun-clause-more
returns-in-Ok-Begun-clause-more g c =
    first_both (g.O.AnswerRecipient.account c.args.output.now) (g.O.AnswerRecipient.account c.rounds.output) (g.O.AnswerRecipient.account c.answer_some.new.output)
    c.args.self.now.held c.rounds.self.held c.answer_some.new.self.held c.rounds.invariant.more c.in-Ok-Begun.ensures.more

pub returns-in-Ok-Malformed-clause-more : goal.returns-in-Ok-Malformed-clause-more
returns-in-Ok-Malformed-clause-more g c =
    first_both (g.O.AnswerRecipient.account c.args.output.now) (g.O.AnswerRecipient.account c.rounds.output) (g.O.AnswerRecipient.account c.answer_some.new.output)
    c.args.self.now.held c.rounds.self.held c.answer_some.new.self.held c.rounds.invariant.more c.in-Ok-Malformed.ensures.more

pub returns-in-Ok-Begun-clause-answers : goal.returns-in-Ok-Begun-clause-answers
returns-in-Ok-Begun-clause-answers g c = λ w known.
    let far = c.rounds.invariant.answered w known in
    let some = c.in-Ok-Begun.ensures.answers far.1.answered.after.left far.1.answered.after.known in (
      far.0 ++ some.0,
      serves_both g.R.Meaning.Meaning.functions c.args.self.now.course.last w (sound_tidy w (c.its_world_is_sound.ensures w known)) g.D.Disk.state c.rounds.store
          (g.O.AnswerRecipient.contents c.args.output.now) (g.O.AnswerRecipient.contents c.rounds.output) (g.O.AnswerRecipient.contents c.answer_some.new.output)
          c.args.self.now.held far.0 c.rounds.self.held c.rounds.self.course.last far.1
          c.answer_some.new.store c.answer_some.new.self.course.last some.0 c.answer_some.new.self.held some.1,
      subst (ComesAfter some.0 c.answer_some.new.self.held) c.in-Ok-Begun.field-0-is some.2,
    )

pub returns-in-Ok-Malformed-clause-answers : goal.returns-in-Ok-Malformed-clause-answers
returns-in-Ok-Malformed-clause-answers g c = λ w known.
    let far = c.rounds.invariant.answered w known in
    let some = c.in-Ok-Malformed.ensures.answers far.1.answered.after.left far.1.answered.after.known in (
      far.0 ++ some.0,
      serves_both g.R.Meaning.Meaning.functions c.args.self.now.course.last w (sound_tidy w (c.its_world_is_sound.ensures w known)) g.D.Disk.state c.rounds.store
          (g.O.AnswerRecipient.contents c.args.output.now) (g.O.AnswerRecipient.contents c.rounds.output) (g.O.AnswerRecipient.contents c.answer_some.new.output)
          c.args.self.now.held far.0 c.rounds.self.held c.rounds.self.course.last far.1
          c.answer_some.new.store c.answer_some.new.self.course.last some.0 c.answer_some.new.self.held some.1,
      subst (ComesAfter some.0 c.answer_some.new.self.held) c.in-Ok-Malformed.field-0-is some.2,
    )

pub returns-in-Err-clause-answers : goal.returns-in-Err-clause-answers
returns-in-Err-clause-answers g c = λ w known.
    let far = c.rounds.invariant.answered w known in
    breaks_in_both g.R.Meaning.Meaning.functions c.args.self.now.course.last w (sound_tidy w (c.its_world_is_sound.ensures w known)) g.D.Disk.state c.rounds.store
    (g.O.AnswerRecipient.contents c.args.output.now) (g.O.AnswerRecipient.contents c.rounds.output) (g.O.AnswerRecipient.contents c.answer_some.new.output)
    c.args.self.now.held far.0 c.rounds.self.held c.rounds.self.course.last far.1 c.answer_some.new.store c.in-Err.ended
    (c.in-Err.ensures.answers far.1.answered.after.left far.1.answered.after.known)
