use Rattle.std.proofs.Common.{◌+◌, [], length, rules, refl, sym, ap, subst, ◌∙◌, arith, length-append, length-drop, length-take}
use Rattle.std.proofs.lemmas.Grind.{common_steps}
use Rattle.message_frames.specs.Frames.{IsBegunFrame}
use Rattle.message_laws.proofs.Tidy.{sound_tidy}
use Rattle.message_session.specs.MessageSessions.{text_limit}
use Rattle.message_session.specs.Standing.{IsReadIn}
use Rattle.message_session.proofs.Next.{piece_read, read_next, read_on}
use Rattle.message_session.proofs.Pieces.{HasCome, as_begun, as_malformed, begun_none, come_first, come_on, come_piece, ends_all, ends_broken, ends_by_piece, ends_malformed, ends_unheld, ends_unread}
use Rattle.message_session.proofs.Standing.{none_at_rest}
use Rattle.message_session.proofs.Streams.{none_read}
use Rattle.message_session.proofs.serve.serve_frames.Goals as goal

pub pieces-init : goal.pieces-init
pieces-init g c = record {
  macros = refl;
  buffer = first_of (omega (arith, c.in-Ok.ensures.len, c.in-Ok.piece.ok.0), first_of (search rules, grind (arith, common_steps)));
  reads = omega arith;
  count = omega arith;
  answered = λ w known.
      subst (λ rest. HasCome g.R.Meaning.Meaning.functions c.args.course.last w g.D.Disk.state (g.I.Read.remaining c.args.input.now) (g.I.Read.remaining c.args.input.now)
      (g.O.AnswerRecipient.contents c.args.output.now) (g.O.AnswerRecipient.contents c.args.output.now) c.args.store.now c.args.course.last rest 0 × IsBegunFrame text_limit rest) (sym c.new.ensures)
      (come_first g.R.Meaning.Meaning.functions c.args.course.last w g.D.Disk.state (sound_tidy w (c.its_world_is_sound.ensures w known)) (g.I.Read.remaining c.args.input.now) (g.O.AnswerRecipient.contents c.args.output.now) c.args.store.now known, begun_none);
  rests = c.requires.rests;
  read = subst (IsReadIn (g.O.AnswerRecipient.account c.args.output.now) (g.I.Read.remaining c.args.input.now)) (sym c.new.ensures) c.requires.read;
  input = refl;
}

pub pieces-preserved : goal.pieces-preserved
pieces-preserved g c = record {
  macros = c.answer_whole.ensures.macros ∙ c.pieces.invariant.macros;
  buffer = simp (length-take, length-append, length-drop) (omega (arith, ap length c.as_mut_slice.ensures.value, c.pieces.piece.ok.0));
  reads = omega arith;
  count = omega (arith, c.in-Ok-read_piece.ensures.most, ap length c.as_mut_slice.ensures.value);
  answered = λ w known.
      let far = c.pieces.invariant.answered w known in
      let here = come_piece g.R.Meaning.Meaning.functions c.args.course.last w g.D.Disk.state (sound_tidy w (c.its_world_is_sound.ensures w known)) (g.I.Read.remaining c.args.input.now) (g.O.AnswerRecipient.contents c.args.output.now) c.pieces.store (g.O.AnswerRecipient.contents c.pieces.output) (g.O.AnswerRecipient.contents c.pieces.output) c.pieces.session.course.last c.pieces.session.held c.pieces.came (g.I.Read.remaining c.pieces.input) far.0
      (g.I.Read.remaining c.read_piece.new.input) c.read_piece.new.held c.in-Ok-read_piece.count c.in-Ok-read_piece.ensures.takes in
      let all = as_begun g.R.Meaning.Meaning.functions (record { alloc = c.pieces.session.alloc; held = c.read_piece.new.held; course = c.pieces.session.course }) c.answer_whole.new.self here.serves.answered.after.left g.D.Disk.state
      c.answer_whole.new.store (g.O.AnswerRecipient.contents c.pieces.output) (g.O.AnswerRecipient.contents c.answer_whole.new.output) c.in-Ok-true.field-0 c.in-Ok-true.field-0-test
      (c.in-Ok-true.ensures.answers here.serves.answered.after.left here.serves.answered.after.known) in
      (come_on g.R.Meaning.Meaning.functions c.args.course.last w g.D.Disk.state (sound_tidy w (c.its_world_is_sound.ensures w known)) (g.I.Read.remaining c.args.input.now) (g.O.AnswerRecipient.contents c.args.output.now) c.pieces.store (g.O.AnswerRecipient.contents c.pieces.output) (g.O.AnswerRecipient.contents c.answer_whole.new.output) c.pieces.session.course.last c.read_piece.new.held (c.pieces.came + c.in-Ok-read_piece.count) (g.I.Read.remaining c.read_piece.new.input) here c.answer_whole.new.store c.answer_whole.new.self.course.last all.0 c.answer_whole.new.self.held all.1, all.2);
  rests = c.in-Ok-true.ensures.rests;
  read = read_on (g.O.AnswerRecipient.account c.pieces.output) (g.O.AnswerRecipient.account c.answer_whole.new.output) (g.I.Read.remaining c.read_piece.new.input) c.read_piece.new.held c.answer_whole.new.self.held
      (piece_read (g.O.AnswerRecipient.account c.pieces.output) (g.I.Read.remaining c.pieces.input) (g.I.Read.remaining c.read_piece.new.input) c.pieces.session.held c.read_piece.new.held c.in-Ok-read_piece.count
      c.in-Ok-read_piece.ensures.takes c.pieces.invariant.read)
      c.in-Ok-true.ensures.more;
  input = c.answer_whole.ensures.input ∙ c.pieces.invariant.input;
}

pub answer_whole-requires-clause-next : goal.answer_whole-requires-clause-next
answer_whole-requires-clause-next g c =
    read_next (g.O.AnswerRecipient.account c.pieces.output) (g.I.Read.remaining c.read_piece.new.input) c.read_piece.new.held
    (piece_read (g.O.AnswerRecipient.account c.pieces.output) (g.I.Read.remaining c.pieces.input) (g.I.Read.remaining c.read_piece.new.input) c.pieces.session.held c.read_piece.new.held c.in-Ok-read_piece.count
    c.in-Ok-read_piece.ensures.takes c.pieces.invariant.read)

pub returns-in_default-clause-serves : goal.returns-in_default-clause-serves
returns-in_default-clause-serves g c = λ w known.
    ends_unheld g.R.Meaning.Meaning.functions c.args.course.last w g.D.Disk.state (sound_tidy w (c.its_world_is_sound.ensures w known)) (g.I.Read.remaining c.args.input.now) (g.O.AnswerRecipient.contents c.args.output.now) c.args.store.now (g.O.AnswerRecipient.contents c.args.output.now) (g.O.AnswerRecipient.contents c.args.output.now) c.args.course.last [] 0 (g.I.Read.remaining c.args.input.now)
    (come_first g.R.Meaning.Meaning.functions c.args.course.last w g.D.Disk.state (sound_tidy w (c.its_world_is_sound.ensures w known)) (g.I.Read.remaining c.args.input.now) (g.O.AnswerRecipient.contents c.args.output.now) c.args.store.now known)
    (g.I.Read.remaining c.args.input.now) [] (none_read (g.I.Read.remaining c.args.input.now))

pub returns-clause-serves : goal.returns-clause-serves
returns-clause-serves g c = λ w known.
    let far = c.pieces.invariant.answered w known in
    ends_unread g.R.Meaning.Meaning.functions c.args.course.last w g.D.Disk.state (sound_tidy w (c.its_world_is_sound.ensures w known)) (g.I.Read.remaining c.args.input.now) (g.O.AnswerRecipient.contents c.args.output.now) c.pieces.store (g.O.AnswerRecipient.contents c.pieces.output) (g.O.AnswerRecipient.contents c.pieces.output) c.pieces.session.course.last c.pieces.session.held c.pieces.came (g.I.Read.remaining c.pieces.input)
    far.0 (g.I.Read.remaining c.pieces.input) (none_read (g.I.Read.remaining c.pieces.input)) far.1

pub returns-in-Ok-eq0-clause-serves : goal.returns-in-Ok-eq0-clause-serves
returns-in-Ok-eq0-clause-serves g c = λ w known.
    let far = c.pieces.invariant.answered w known in
    ends_all g.R.Meaning.Meaning.functions c.args.course.last w g.D.Disk.state (sound_tidy w (c.its_world_is_sound.ensures w known)) (g.I.Read.remaining c.args.input.now) (g.O.AnswerRecipient.contents c.args.output.now) c.pieces.store (g.O.AnswerRecipient.contents c.pieces.output) (g.O.AnswerRecipient.contents c.pieces.output) c.pieces.session.course.last c.pieces.session.held c.pieces.came (g.I.Read.remaining c.pieces.input) far.0
    (g.I.Read.remaining c.read_piece.new.input) c.read_piece.new.held c.in-Ok-eq0.field-0 c.in-Ok-eq0.ensures.takes c.in-Ok-eq0.field-0-test far.1

pub returns-in-Err-clause-serves : goal.returns-in-Err-clause-serves
returns-in-Err-clause-serves g c = λ w known.
    let far = c.pieces.invariant.answered w known in
    ends_by_piece g.R.Meaning.Meaning.functions c.args.course.last w g.D.Disk.state (sound_tidy w (c.its_world_is_sound.ensures w known)) (g.I.Read.remaining c.args.input.now) (g.O.AnswerRecipient.contents c.args.output.now) c.pieces.store (g.O.AnswerRecipient.contents c.pieces.output) (g.O.AnswerRecipient.contents c.pieces.output) c.pieces.session.course.last c.pieces.session.held c.pieces.came (g.I.Read.remaining c.pieces.input)
    far.0 (g.I.Read.remaining c.read_piece.new.input) c.read_piece.new.held c.in-Err.number c.in-Err.ensures.takes far.1

pub returns-in-Ok-false-clause-serves : goal.returns-in-Ok-false-clause-serves
returns-in-Ok-false-clause-serves g c = λ w known.
    let far = c.pieces.invariant.answered w known in
    let here = come_piece g.R.Meaning.Meaning.functions c.args.course.last w g.D.Disk.state (sound_tidy w (c.its_world_is_sound.ensures w known)) (g.I.Read.remaining c.args.input.now) (g.O.AnswerRecipient.contents c.args.output.now) c.pieces.store (g.O.AnswerRecipient.contents c.pieces.output) (g.O.AnswerRecipient.contents c.pieces.output) c.pieces.session.course.last c.pieces.session.held c.pieces.came (g.I.Read.remaining c.pieces.input) far.0
    (g.I.Read.remaining c.read_piece.new.input) c.read_piece.new.held c.in-Ok-read_piece.count c.in-Ok-read_piece.ensures.takes in
    let all = as_malformed g.R.Meaning.Meaning.functions (record { alloc = c.pieces.session.alloc; held = c.read_piece.new.held; course = c.pieces.session.course }) c.answer_whole.new.self here.serves.answered.after.left g.D.Disk.state
    c.answer_whole.new.store (g.O.AnswerRecipient.contents c.pieces.output) (g.O.AnswerRecipient.contents c.answer_whole.new.output) c.in-Ok-false.field-0 c.in-Ok-false.field-0-test
    (c.in-Ok-false.ensures.answers here.serves.answered.after.left here.serves.answered.after.known) in
    let later = come_on g.R.Meaning.Meaning.functions c.args.course.last w g.D.Disk.state (sound_tidy w (c.its_world_is_sound.ensures w known)) (g.I.Read.remaining c.args.input.now) (g.O.AnswerRecipient.contents c.args.output.now) c.pieces.store (g.O.AnswerRecipient.contents c.pieces.output) (g.O.AnswerRecipient.contents c.answer_whole.new.output) c.pieces.session.course.last c.read_piece.new.held (c.pieces.came + c.in-Ok-read_piece.count) (g.I.Read.remaining c.read_piece.new.input) here c.answer_whole.new.store c.answer_whole.new.self.course.last all.0 c.answer_whole.new.self.held all.1 in
    ends_malformed g.R.Meaning.Meaning.functions c.args.course.last w g.D.Disk.state (sound_tidy w (c.its_world_is_sound.ensures w known)) (g.I.Read.remaining c.args.input.now) (g.O.AnswerRecipient.contents c.args.output.now) c.answer_whole.new.store (g.O.AnswerRecipient.contents c.answer_whole.new.output) (g.O.AnswerRecipient.contents c.answer_whole.new.output) c.answer_whole.new.self.course.last c.answer_whole.new.self.held
    (c.pieces.came + c.in-Ok-read_piece.count) (g.I.Read.remaining c.read_piece.new.input) later all.2 c.saturating_sub.result (omega (arith, c.saturating_sub.ensures, ap length c.bytes.ensures))

pub returns-in-Err-answer_whole-clause-serves : goal.returns-in-Err-answer_whole-clause-serves
returns-in-Err-answer_whole-clause-serves g c = λ w known.
    let far = c.pieces.invariant.answered w known in
    let here = come_piece g.R.Meaning.Meaning.functions c.args.course.last w g.D.Disk.state (sound_tidy w (c.its_world_is_sound.ensures w known)) (g.I.Read.remaining c.args.input.now) (g.O.AnswerRecipient.contents c.args.output.now) c.pieces.store (g.O.AnswerRecipient.contents c.pieces.output) (g.O.AnswerRecipient.contents c.pieces.output) c.pieces.session.course.last c.pieces.session.held c.pieces.came (g.I.Read.remaining c.pieces.input) far.0
    (g.I.Read.remaining c.read_piece.new.input) c.read_piece.new.held c.in-Ok-read_piece.count c.in-Ok-read_piece.ensures.takes in
    ends_broken g.R.Meaning.Meaning.functions c.args.course.last w g.D.Disk.state (sound_tidy w (c.its_world_is_sound.ensures w known)) (g.I.Read.remaining c.args.input.now) (g.O.AnswerRecipient.contents c.args.output.now) c.pieces.store (g.O.AnswerRecipient.contents c.pieces.output) (g.O.AnswerRecipient.contents c.answer_whole.new.output) c.pieces.session.course.last c.read_piece.new.held (c.pieces.came + c.in-Ok-read_piece.count) (g.I.Read.remaining c.read_piece.new.input) here c.answer_whole.new.store c.in-Err-answer_whole.ended
    (c.in-Err-answer_whole.ensures.answers here.serves.answered.after.left here.serves.answered.after.known)

-- ---- the recipient

pub returns-in_default-clause-under_way : goal.returns-in_default-clause-under_way
returns-in_default-clause-under_way g c = none_at_rest g.R.Meaning.Meaning.functions g.D.Disk.state g.met.D.Disk.sound (g.O.AnswerRecipient.account c.args.output.now) c.args.store.now c.args.course.last c.requires.rests

pub returns-clause-under_way : goal.returns-clause-under_way
returns-clause-under_way g c = none_at_rest g.R.Meaning.Meaning.functions g.D.Disk.state g.met.D.Disk.sound (g.O.AnswerRecipient.account c.pieces.output) c.pieces.store c.pieces.session.course.last c.pieces.invariant.rests

pub returns-in-Ok-eq0-clause-under_way : goal.returns-in-Ok-eq0-clause-under_way
returns-in-Ok-eq0-clause-under_way g c = none_at_rest g.R.Meaning.Meaning.functions g.D.Disk.state g.met.D.Disk.sound (g.O.AnswerRecipient.account c.pieces.output) c.pieces.store c.pieces.session.course.last c.pieces.invariant.rests

pub returns-in-Err-clause-under_way : goal.returns-in-Err-clause-under_way
returns-in-Err-clause-under_way g c = none_at_rest g.R.Meaning.Meaning.functions g.D.Disk.state g.met.D.Disk.sound (g.O.AnswerRecipient.account c.pieces.output) c.pieces.store c.pieces.session.course.last c.pieces.invariant.rests

pub returns-in-Ok-false-clause-under_way : goal.returns-in-Ok-false-clause-under_way
returns-in-Ok-false-clause-under_way g c = none_at_rest g.R.Meaning.Meaning.functions g.D.Disk.state g.met.D.Disk.sound (g.O.AnswerRecipient.account c.answer_whole.new.output) c.answer_whole.new.store c.answer_whole.new.self.course.last c.in-Ok-false.ensures.rests
