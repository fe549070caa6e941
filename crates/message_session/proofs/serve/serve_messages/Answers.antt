use Rattle.std.proofs.Common.{inl, inr, ◌++◌, refl, sym, ap, subst, ◌∙◌}
use Rattle.message_frames.specs.Frames.{position_bytes}
use Rattle.message_session.specs.Account.{MessageAccount}
use Rattle.message_session.specs.FrameAnswers.{answered_bytes}
use Rattle.message_session.proofs.Next.{read_begun}
use Rattle.message_session.proofs.Standing.{none_at_rest, rests_begun}
use Rattle.message_session.proofs.Told.{ends_told}
use Rattle.sessions.specs.Streams.{Writes, WritesPart}
use Rattle.message_session.proofs.serve.serve_messages.Goals as goal

-- nothing is kept account of before the position
pub returns-in-Err-clause-under_way : goal.returns-in-Err-clause-under_way
returns-in-Err-clause-under_way g c = λ account is. absurd (c.requires.begins account is)

pub returns-in_default-clause-under_way : goal.returns-in_default-clause-under_way
returns-in_default-clause-under_way g c = λ account is. absurd (c.requires.begins account is)

pub write_position-requires : goal.write_position-requires
write_position-requires g c = record {
  begins = c.requires.begins;
  told = c.as_slice.ensures.value ∙ c.in-Ok-push_position.ensures.whole ∙ ap (λ l. l ++ position_bytes c.in-Ok.last) c.new-told.ensures.items;
  in_world = c.in-Ok.ensures.told;
}

pub returns-in-Err-write_position-clause-under_way : goal.returns-in-Err-write_position-clause-under_way
returns-in-Err-write_position-clause-under_way g c =
    let functions = g.R.Meaning.Meaning.functions in
    let now = g.O.AnswerRecipient.account c.write_position.new.self in
    none_at_rest functions g.D.Disk.state g.met.D.Disk.sound now c.begin.new.store c.in-Ok.last
    (rests_begun functions g.D.Disk.state g.met.D.Disk.sound (g.O.AnswerRecipient.input c.args.output.now) now c.begin.new.store c.in-Ok.last c.write_position.ensures.kept c.keeps_its_world.ensures)

pub serve_frames-requires-clause-rests : goal.serve_frames-requires-clause-rests
serve_frames-requires-clause-rests g c =
    rests_begun g.R.Meaning.Meaning.functions g.D.Disk.state g.met.D.Disk.sound (g.O.AnswerRecipient.input c.args.output.now) (g.O.AnswerRecipient.account c.write_position.new.self) c.begin.new.store c.in-Ok.last
    c.write_position.ensures.kept c.keeps_its_world.ensures

pub returns-in-Err-clause-serves : goal.returns-in-Err-clause-serves
returns-in-Err-clause-serves g c = λ w known.
    let unbegun = c.in-Err.ensures.begun w known in
    inl (record { number = unbegun.0; fault = unbegun.1; store = inl unbegun.2; unread = refl; unwritten = refl })

pub returns-in_default-clause-serves : goal.returns-in_default-clause-serves
returns-in_default-clause-serves g c = λ w known.
    let begun = c.in-Ok.ensures.begun w known in
    inl (record { number = 90; fault = refl; store = inr (refl, c.in-Ok.last, begun.0, begun.1); unread = refl; unwritten = refl })

pub returns-in-Err-write_position-clause-serves : goal.returns-in-Err-write_position-clause-serves
returns-in-Err-write_position-clause-serves g c = λ w known.
    let begun = c.in-Ok.ensures.begun w known in
    inr (inl (record {
      position = c.in-Ok.last;
      first = begun.0;
      begins = begun.1;
      fault = refl;
      unread = refl;
      part = subst (WritesPart (g.O.AnswerRecipient.contents c.args.output.now) (g.O.AnswerRecipient.contents c.write_position.new.self))
          (c.as_slice.ensures.value ∙ c.in-Ok-push_position.ensures.whole ∙ ap (λ l. l ++ position_bytes c.in-Ok.last) c.new-told.ensures.items) c.in-Err-write_position.ensures.part;
    }))

pub returns-clause-serves : goal.returns-clause-serves
returns-clause-serves g c = λ w known.
    let begun = c.in-Ok.ensures.begun w known in
    let held = g.O.AnswerRecipient.contents c.args.output.now in
    let between = g.O.AnswerRecipient.contents c.write_position.new.self in
    let written = g.O.AnswerRecipient.contents c.serve_frames.new.output in
    let serves = c.serve_frames.ensures.serves begun.0 begun.1.known in
    inr (inr (record {
      position = c.in-Ok.last;
      first = begun.0;
      mid = c.begin.new.store;
      begins = begun.1;
      read = serves.0;
      reads = serves.1;
      ends = ends_told g.R.Meaning.Meaning.functions c.in-Ok.last begun.0 g.D.Disk.state c.serve_frames.new.store held between written (position_bytes c.in-Ok.last)
          (answered_bytes g.R.Meaning.Meaning.functions c.in-Ok.last begun.0)
          (subst (Writes held between) (c.as_slice.ensures.value ∙ c.in-Ok-push_position.ensures.whole ∙ ap (λ l. l ++ position_bytes c.in-Ok.last) c.new-told.ensures.items) c.in-Ok-write_position.ensures.whole)
          serves.0 (g.I.Read.remaining c.serve_frames.new.input) c.serve_frames.result serves.2;
    }))

pub serve_frames-requires-clause-read : goal.serve_frames-requires-clause-read
serve_frames-requires-clause-read g c = λ account is.
    let first = c.write_position.ensures.kept account is in
    read_begun account (g.I.Read.remaining c.args.input.now) (ap (λ (a : MessageAccount g.row.D.Denot). a.answered) first.2)
    (λ all told. c.requires.of_input all (sym (ap (λ (a : MessageAccount g.row.D.Denot). a.input) first.2) ∙ told))
