use Rattle.std.proofs.Common.{Ok, Err, [], ◌++◌, ◌-◌, ◌≡◌, take, drop, length, is_some, refl, sym, ap, subst, ◌∙◌, arith, length-drop}
use Rattle.sessions.specs.steps.Serve.{SessionGoesOn}
use Rattle.sessions.specs.steps.Course.{course_of}
use Rattle.sessions.specs.steps.Input.{IsPending}
use Rattle.sessions.specs.steps.Standing.{StandsBefore}
use Rattle.sessions.proofs.Handing.{hands_both, hands_nothing, stands_on}
use Rattle.sessions.proofs.Answering.{extended, next_both, nothing_answered, pending_again}
use Rattle.prevalence_store.proofs.calls.Executing.{known_world}
use Rattle.sessions.proofs.StreamLemmas.{behind_piece}
use Rattle.sessions.proofs.serving.answer_piece.Goals as goal

pub forms-init : goal.forms-init
forms-init g c = record {
  is_open = c.requires.pending.is_open;
  honest = refl;
  forms = c.requires.forms;
  count = omega arith;
  goes = λ w known bytes p.
      let functions = g.R.Meaning.Meaning.functions in
      let held = g.W.Recipient.contents c.args.writer.now in
      let course = course_of c.args.course.now in
      extended functions g.D.Disk.state c.args.wanted.strict course course c.args.store.now c.args.store.now w c.args.wanted.mode bytes held held c.args.pending.now [] c.args.piece.now
      (nothing_answered functions g.D.Disk.state g.met.D.Disk.sound c.args.wanted.strict course c.args.store.now w c.args.wanted.mode bytes held c.args.pending.now known p);
  first = refl;
  hands = hands_nothing g.R.Meaning.Meaning.functions g.D.Disk.state g.met.D.Disk.sound (course_of c.args.course.now).forms (g.W.Recipient.account c.args.writer.now) c.args.store.now c.args.wanted.mode
      (λ w known. (c.requires.stands w known).0 ++ c.args.piece.now) (λ w known. (c.requires.stands w known).2);
}

pub answer_first-requires-clause-stands : goal.answer_first-requires-clause-stands
answer_first-requires-clause-stands g c = λ v there.
    let functions = g.R.Meaning.Meaning.functions in
    let old = known_world c.args.store.now.world c.requires.pending.is_open in
    let s = c.requires.stands old.0 old.1 in
    let goes = c.forms.invariant.goes old.0 old.1 s.0 s.1 in
    let same : goes.far.world ≡ v = let left_is = goes.advances.after.left in cc in (
      goes.bytes,
      subst (λ u. IsPending functions u c.args.wanted.mode c.forms.pending goes.bytes) same goes.is_pending,
      subst (λ u. StandsBefore functions g.D.Disk.state (g.W.Recipient.account c.forms.writer) c.forms.store u c.args.wanted.mode (goes.bytes ++ c.forms.rest.now)) same
          (stands_on functions g.D.Disk.state g.met.D.Disk.sound c.args.wanted.strict (course_of c.args.course.now) (course_of c.forms.course) c.args.store.now c.forms.store old.0 c.args.wanted.mode (s.0 ++ c.args.piece.now)
          (g.W.Recipient.contents c.args.writer.now) (g.W.Recipient.contents c.forms.writer) c.forms.pending c.forms.rest.now (g.W.Recipient.account c.args.writer.now) (g.W.Recipient.account c.forms.writer)
          goes c.forms.invariant.hands s.2),
    )

pub answer_first-requires-clause-pending : goal.answer_first-requires-clause-pending
answer_first-requires-clause-pending g c =
    let functions = g.R.Meaning.Meaning.functions in
    let old = known_world c.args.store.now.world c.requires.pending.is_open in
    let p = c.requires.pending.some old.0 old.1 in record {
      is_open = c.forms.invariant.is_open;
      some = pending_again functions g.D.Disk.state c.args.wanted.strict (course_of c.args.course.now) (course_of c.forms.course) c.args.store.now c.forms.store old.0 c.args.wanted.mode (p.0 ++ c.args.piece.now)
          (g.W.Recipient.contents c.args.writer.now) (g.W.Recipient.contents c.forms.writer) c.forms.pending c.forms.rest.now (c.forms.invariant.goes old.0 old.1 p.0 p.1);
    }

pub forms-preserved : goal.forms-preserved
forms-preserved g c =
    let functions = g.R.Meaning.Meaning.functions in
    let rest = c.forms.rest.now in
    let n = c.in-Ok.count in
    let behind : take (length rest - n) (drop n rest) ≡ drop n rest = behind_piece rest n in
    record {
      is_open =
          let old = known_world c.args.store.now.world c.requires.pending.is_open in
          let p = c.requires.pending.some old.0 old.1 in
          let first = c.forms.invariant.goes old.0 old.1 p.0 p.1 in
          let second = c.in-Ok.ensures.answers first.far.world first.advances.after.left first.bytes first.is_pending in
          ap is_some second.advances.after.left;
      honest = c.answer_first.ensures.honest ∙ c.forms.invariant.honest;
      forms = c.answer_first.ensures.forms;
      count =
          let within = c.in-Ok.ensures.some.0 in
          let more = c.in-Ok.ensures.count in
          let so_far = c.forms.invariant.count in
          rw behind (rw (length-drop n rest) (omega arith));
      goes = λ w known bytes p.
          let first = c.forms.invariant.goes w known bytes p in
          let held = g.W.Recipient.contents c.args.writer.now in
          let written = g.W.Recipient.contents c.answer_first.new.writer in
          let text = bytes ++ c.args.piece.now in
          subst (λ t. SessionGoesOn functions g.D.Disk.state c.args.wanted.strict (course_of c.args.course.now) (course_of c.answer_first.new.course) c.args.store.now c.answer_first.new.store w c.args.wanted.mode text held written c.answer_first.new.pending t) (sym behind)
          (next_both functions g.D.Disk.state g.met.D.Disk.sound c.args.wanted (course_of c.args.course.now) (course_of c.forms.course) (course_of c.answer_first.new.course) c.args.store.now c.forms.store c.answer_first.new.store w c.args.wanted.mode
          held (g.W.Recipient.contents c.forms.writer) written c.forms.pending c.forms.invariant.honest text rest first c.answer_first.new.pending (Ok n)
          (c.in-Ok.ensures.answers first.far.world first.advances.after.left first.bytes first.is_pending));
      first = c.answer_first.ensures.first ∙ c.forms.invariant.first;
      hands =
          let old = known_world c.args.store.now.world c.requires.pending.is_open in
          let p = c.requires.pending.some old.0 old.1 in
          let first = c.forms.invariant.goes old.0 old.1 p.0 p.1 in
          hands_both functions g.D.Disk.state g.met.D.Disk.sound (course_of c.args.course.now).forms (course_of c.forms.course).forms (course_of c.answer_first.new.course).forms (g.W.Recipient.account c.args.writer.now)
          (g.W.Recipient.account c.forms.writer) (g.W.Recipient.account c.answer_first.new.writer) c.forms.store c.answer_first.new.store first.far.world first.advances.after.left c.forms.invariant.hands c.in-Ok.ensures.hands;
    }

pub returns-in-Err-clause-answers : goal.returns-in-Err-clause-answers
returns-in-Err-clause-answers g c = λ w known bytes p.
    let functions = g.R.Meaning.Meaning.functions in
    let first = c.forms.invariant.goes w known bytes p in
    next_both functions g.D.Disk.state g.met.D.Disk.sound c.args.wanted (course_of c.args.course.now) (course_of c.forms.course) (course_of c.answer_first.new.course) c.args.store.now c.forms.store c.answer_first.new.store w c.args.wanted.mode
    (g.W.Recipient.contents c.args.writer.now) (g.W.Recipient.contents c.forms.writer) (g.W.Recipient.contents c.answer_first.new.writer) c.forms.pending c.forms.invariant.honest
    (bytes ++ c.args.piece.now) c.forms.rest.now first c.answer_first.new.pending (Err c.in-Err.ended)
    (c.in-Err.ensures.answers first.far.world first.advances.after.left first.bytes first.is_pending)
