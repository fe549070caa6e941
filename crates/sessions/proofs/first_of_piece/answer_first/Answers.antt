use Rattle.std.proofs.Common.{[], ◌++◌, ◌+◌, Some, false, drop, refl, subst, sym, ap, ◌∙◌, arith}
use Rattle.plist_state.specs.State.{WorldState}
use Rattle.session_words.specs.declared.mode.Mode.{Mode}
use Rattle.prevalence_store.specs.meaning.Acceptance.{read_in}
use Rattle.prevalence_store.proofs.calls.Executing.{known_world}
use Rattle.sessions.specs.declared.answer.Answered.TheVariants.{Accepted}
use Rattle.sessions.specs.declared.ending.Ended.TheVariants as ways
use Rattle.lisp_object.specs.declared.refusal.TheConstants.{OUTPUT}
use Rattle.sessions.specs.Streams.{Writes, WritesPart}
use Rattle.sessions.specs.steps.Course.{Course, course_of}
use Rattle.sessions.proofs.Answering.{ended_within, form_answered}
use Rattle.sessions.proofs.FoundForms.{found_answered, found_own, found_passed, found_stops, stands_there}
use Rattle.sessions.proofs.Handing.{hands_lines, line_stored, none_handed, rest_of_input, written_alone}
use Rattle.sessions.proofs.Pieces.{form_takes, piece_whole_more}
use Rattle.sessions.proofs.first_of_piece.answer_first.Goals as goal

-- ---- its line may be handed on

pub write_lines-requires : goal.write_lines-requires
write_lines-requires g c = record {
  stored = λ kept is.
      let functions = g.R.Meaning.Meaning.functions in
      let here = known_world c.args.store.now.world c.requires.pending.is_open in
      let s = c.requires.stands here.0 here.1 in
      let f = c.in-Some.found in
      let piece = c.args.piece.now in
      let mode = c.args.wanted.mode in
      let has = c.in-Some.ensures.has here.0 here.1 s.0 s.1 in
      let rest = rest_of_input functions g.D.Disk.state g.met.D.Disk.sound (g.W.Recipient.account c.args.writer.now) c.args.store.now here.0 mode (s.0 ++ piece) s.2 in
      let all = (s.0 ++ piece) ++ rest.0 in
      let reads = ap (read_in functions here.0 mode) (sym (piece_whole_more s.0 piece rest.0 f.count)) ∙ has.reads (drop f.count piece ++ rest.0) in
      let line = f.line.items in
      line_stored functions g.D.Disk.state g.met.D.Disk.sound kept c.args.store.now c.args.store.now here.0 mode all _ (rest.1 kept is) here.1 line (Accepted false)
      (found_answered functions g.D.Disk.state g.met.D.Disk.sound c.args.store.now here.0 mode here.1 all has.object has.start f.next reads has.value has.valued line has.line_is (Some []) (Some line) (written_alone line))
      c.as_slice.ensures.value;
}

-- ---- it was passed

pub returns-in-Ok-clause-answers : goal.returns-in-Ok-clause-answers
returns-in-Ok-clause-answers g c = λ w known bytes p.
    let functions = g.R.Meaning.Meaning.functions in
    let f = c.in-Some.found in
    let piece = c.args.piece.now in
    let course = course_of c.args.course.now in
    let later = course_of c.pass.new.self in
    let held = g.W.Recipient.contents c.args.writer.now in
    let written = g.W.Recipient.contents c.write_lines.new.self in
    let store = c.args.store.now in
    let has = c.in-Some.ensures.has w known bytes p in
    let fresh = c.new-fresh.result in
    let none = λ (v : WorldState) (in_mode : Mode). c.new-fresh.ensures.none functions v in_mode in
    let passed = found_passed functions g.D.Disk.state g.met.D.Disk.sound store w c.args.wanted known bytes piece f has held written fresh none
    (subst (Writes held written) c.as_slice.ensures.value c.in-Ok.ensures.whole) course later c.pass.ensures in
    form_answered functions g.D.Disk.state w c.args.wanted.mode fresh bytes piece f.count f.count has.object (found_own functions w c.args.wanted bytes piece f has) false
    (stands_there functions w c.args.wanted bytes piece f has fresh none) c.in-Some.ensures.within.1 (omega arith) c.args.wanted refl course later store store held written passed.0 passed.1 (λ strict. passed.2)

pub returns-in-Ok-clause-some : goal.returns-in-Ok-clause-some
returns-in-Ok-clause-some g c =
    let functions = g.R.Meaning.Meaning.functions in
    let here = known_world c.args.store.now.world c.requires.pending.is_open in
    let p = c.requires.pending.some here.0 here.1 in
    let f = c.in-Some.found in
    let piece = c.args.piece.now in
    let has = c.in-Some.ensures.has here.0 here.1 p.0 p.1 in
    let fresh = c.new-fresh.result in
    form_takes functions here.0 c.args.wanted.mode fresh _ has.object (found_own functions here.0 c.args.wanted p.0 piece f has) false
    (stands_there functions here.0 c.args.wanted p.0 piece f has fresh (λ v in_mode. c.new-fresh.ensures.none functions v in_mode)) p.0 piece f.count f.count refl c.in-Some.ensures.within.1 (omega arith) c.args.pending.now p.1

pub returns-in-Ok-clause-hands : goal.returns-in-Ok-clause-hands
returns-in-Ok-clause-hands g c =
    let forms = ap (λ (k : Course). k.forms) c.pass.ensures in
    hands_lines g.R.Meaning.Meaning.functions g.D.Disk.state g.met.D.Disk.sound 1 (course_of c.args.course.now).forms (course_of c.pass.new.self).forms
    (g.W.Recipient.account c.args.writer.now) (g.W.Recipient.account c.write_lines.new.self) c.args.store.now c.write_lines.ensures.kept forms c.keeps_its_world.ensures

-- ---- the writer failed in its line

pub returns-clause-answers : goal.returns-clause-answers
returns-clause-answers g c = λ w known bytes p.
    let functions = g.R.Meaning.Meaning.functions in
    let f = c.in-Some.found in
    let piece = c.args.piece.now in
    let course = course_of c.args.course.now in
    let held = g.W.Recipient.contents c.args.writer.now in
    let written = g.W.Recipient.contents c.write_lines.new.self in
    let store = c.args.store.now in
    let has = c.in-Some.ensures.has w known bytes p in
    let part = subst (WritesPart held written) c.as_slice.ensures.value c.in-Err.ensures.part in
    ended_within functions g.D.Disk.state c.args.wanted course course store store w c.args.wanted.mode held written c.args.pending.now bytes piece f.count (ways.Store OUTPUT)
    (λ more. found_stops functions g.D.Disk.state g.met.D.Disk.sound store w c.args.wanted known bytes piece f has held written c.new-fresh.result (λ v in_mode. c.new-fresh.ensures.none functions v in_mode) part course more)

pub returns-clause-under_way : goal.returns-clause-under_way
returns-clause-under_way g c =
    let here = known_world c.args.store.now.world c.requires.pending.is_open in
    none_handed g.R.Meaning.Meaning.functions g.D.Disk.state g.met.D.Disk.sound 0 1 (g.W.Recipient.account c.args.writer.now) (g.W.Recipient.account c.write_lines.new.self) c.args.store.now here.0 here.1
    (hands_lines g.R.Meaning.Meaning.functions g.D.Disk.state g.met.D.Disk.sound 1 0 1 (g.W.Recipient.account c.args.writer.now) (g.W.Recipient.account c.write_lines.new.self) c.args.store.now
    c.write_lines.ensures.kept refl c.keeps_its_world.ensures)
