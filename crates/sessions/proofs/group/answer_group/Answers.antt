use Rattle.std.proofs.Common.{◌≡◌, ◌++◌, ◌-◌, Bool, true, false, not, Err, refl, sym, ap, subst, ◌∙◌, arith}
use Rattle.prevalence_store.specs.declared.failure.Unlogged.{Unlogged}
use Rattle.prevalence_store.specs.declared.failure.Unlogged.TheVariants.{DeviceFault}
use Rattle.sessions.specs.Pace.{Pace}
use Rattle.sessions.specs.declared.gather.GroupLimit.{GroupLimit}
use Rattle.sessions.specs.Streams.{Writes, WritesPart}
use Rattle.sessions.specs.steps.Course.{Course, course_of}
use Rattle.sessions.specs.steps.Gather.{TakesGroup}
use Rattle.sessions.specs.steps.Schedule.{CountsAll}
use Rattle.prevalence_store.proofs.calls.Executing.{known_world}
use Rattle.sessions.proofs.Counting.{fewer_before_due}
use Rattle.sessions.proofs.Gathered.{group_answered, group_stopped, group_unwritten}
use Rattle.sessions.proofs.Handing.{hands_lines, lines_stored, none_handed, none_of_group, rest_of_input}
use Rattle.sessions.proofs.Groups.{far_stored, group_left}
use Rattle.sessions.proofs.group.answer_group.Goals as goal
use Rattle.sessions.proofs.group.answer_group.Goals.{in-DeviceFault, in_default}

grouped : (group : Bool) → not group ≡ false → group ≡ true
grouped true is = refl
grouped false is = absurd (cc)

pub take_group-requires-clause-begins : goal.take_group-requires-clause-begins
take_group-requires-clause-begins g c = λ w known. let s = c.requires.stands w known in (s.0, (s.1, s.2))

-- the device failed as they were logged
pub returns-then-matches-clause-answers : goal.returns-then-matches-clause-answers
returns-then-matches-clause-answers g c = λ w known text begins pending.
    let functions = g.R.Meaning.Meaning.functions in
    let held = g.W.Recipient.contents c.args.writer.now in
    let course = course_of c.args.course.now in
    let fault : c.in-Err.cause ≡ DeviceFault = elim c.match-matches.branch [
      | in-DeviceFault b ↦ b.in-DeviceFault.is
      | in_default b ↦ let bad : true ≡ false = sym c.if-matches.true ∙ b.matches-is in absurd (cc)
    ] in
    group_stopped functions g.D.Disk.state g.met.D.Disk.sound c.args.wanted course course c.args.store.now c.take_group.new.store w text c.args.rest.now held held known (grouped c.args.wanted.group c.if-not-wanted.false)
    (subst (λ (e : Unlogged). TakesGroup functions c.args.wanted g.D.Disk.state c.args.store.now c.take_group.new.store w text (Err e)) fault (c.in-Err.ensures.takes w known text begins pending)) refl

-- they were left
pub returns-in-Err-clause-left : goal.returns-in-Err-clause-left
returns-in-Err-clause-left g c = λ left.
    let functions = g.R.Meaning.Meaning.functions in
    let here = known_world c.args.store.now.world c.requires.form.is_open in
    let s = c.requires.stands here.0 here.1 in (
      group_left functions c.args.wanted g.D.Disk.state c.args.store.now c.take_group.new.store here.0 s.0 c.in-Err.cause (elim c.match-matches.branch [
        | in-DeviceFault b ↦ let bad : true ≡ false = sym b.matches-is ∙ c.if-matches.false in absurd (cc)
        | in_default b ↦ b.in_default.not-DeviceFault
      ]) (c.in-Err.ensures.takes here.0 here.1 s.0 s.1 s.2),
      refl,
      refl,
    )

pub returns-in-Err-clause-answers : goal.returns-in-Err-clause-answers
returns-in-Err-clause-answers g c = λ w known text begins pending. (
  group_left g.R.Meaning.Meaning.functions c.args.wanted g.D.Disk.state c.args.store.now c.take_group.new.store w text c.in-Err.cause (elim c.match-matches.branch [
    | in-DeviceFault b ↦ let bad : true ≡ false = sym b.matches-is ∙ c.if-matches.false in absurd (cc)
    | in_default b ↦ b.in_default.not-DeviceFault
  ]) (c.in-Err.ensures.takes w known text begins pending),
  refl,
  refl,
)

-- none was taken
pub returns-in-None-clause-left : goal.returns-in-None-clause-left
returns-in-None-clause-left g c = λ left.
    let here = known_world c.args.store.now.world c.requires.form.is_open in
    let s = c.requires.stands here.0 here.1 in
    (rw c.in-None.is at c.in-Ok.ensures.takes here.0 here.1 s.0 s.1 s.2, refl, refl)

pub returns-in-None-clause-answers : goal.returns-in-None-clause-answers
returns-in-None-clause-answers g c = λ w known text begins pending. (rw c.in-None.is at c.in-Ok.ensures.takes w known text begins pending, refl, refl)

-- their lines may be handed on
pub write_lines-requires : goal.write_lines-requires
write_lines-requires g c = record {
  stored = λ kept is.
      let here = known_world c.args.store.now.world c.requires.form.is_open in
      let s = c.requires.stands here.0 here.1 in
      let rest = rest_of_input g.R.Meaning.Meaning.functions g.D.Disk.state g.met.D.Disk.sound (g.W.Recipient.account c.args.writer.now) c.args.store.now here.0 c.args.wanted.mode s.0 s.3 in
      lines_stored g.R.Meaning.Meaning.functions g.D.Disk.state g.met.D.Disk.sound kept c.args.store.now c.take_group.new.store here.0 c.args.wanted.mode (s.0 ++ rest.0) _ (rest.1 kept is) here.1
      s.0 rest.0 refl c.args.wanted c.in-Some.gathered refl (rw c.in-Some.is at c.in-Ok.ensures.takes here.0 here.1 s.0 s.1 s.2) c.as_slice.ensures.value;
}

-- they were answered
pub returns-in-Ok-write_lines-clause-answers : goal.returns-in-Ok-write_lines-clause-answers
returns-in-Ok-write_lines-clause-answers g c = λ w known text begins pending.
    let functions = g.R.Meaning.Meaning.functions in
    let held = g.W.Recipient.contents c.args.writer.now in
    let written = g.W.Recipient.contents c.write_lines.new.self in
    let course = course_of c.args.course.now in
    let later = course_of c.pass_all.new.self in
    let gathered = c.in-Some.gathered in
    let next = c.args.first.now.next in
    let counts = rw c.in-Some.is at c.in-Ok.ensures.counts in
    let passed = c.pass_all.ensures in
    group_answered functions g.D.Disk.state g.met.D.Disk.sound c.args.wanted course later c.args.store.now c.take_group.new.store w text c.args.rest.now held written known
    gathered next (gathered.bytes - next) (rw c.in-Some.is at c.in-Ok.ensures.takes w known text begins pending) (subst (Writes held written) c.as_slice.ensures.value c.in-Ok-write_lines.ensures.whole) pending
    (omega (arith, counts.first))
    (subst (λ (p : Pace). CountsAll gathered.records course.pace p) (sym (ap (λ (k : Course). k.pace) passed))
    c.pass.ensures)
    c.room_before_grown-bytes.result c.room_before_grown-bytes.ensures.grown (counts.record_bytes, ap (λ (l : GroupLimit). l.version) counts.limit_is ∙ c.version.ensures.value)
    (ap (λ (k : Course). k.forms) passed) (ap (λ (k : Course). k.bytes) passed)

pub returns-in-Ok-write_lines-clause-hands : goal.returns-in-Ok-write_lines-clause-hands
returns-in-Ok-write_lines-clause-hands g c = λ count is.
    let forms = ap (λ (k : Course). k.forms) c.pass_all.ensures in
    hands_lines g.R.Meaning.Meaning.functions g.D.Disk.state g.met.D.Disk.sound c.in-Some.gathered.forms (course_of c.args.course.now).forms (course_of c.pass_all.new.self).forms
    (g.W.Recipient.account c.args.writer.now) (g.W.Recipient.account c.write_lines.new.self) c.take_group.new.store c.write_lines.ensures.kept forms c.keeps_its_world.ensures

-- the writer failed in their lines
pub returns-clause-answers : goal.returns-clause-answers
returns-clause-answers g c = λ w known text begins pending.
    let functions = g.R.Meaning.Meaning.functions in
    let held = g.W.Recipient.contents c.args.writer.now in
    let written = g.W.Recipient.contents c.write_lines.new.self in
    let course = course_of c.args.course.now in
    let gathered = c.in-Some.gathered in
    let counts = rw c.in-Some.is at c.in-Ok.ensures.counts in
    group_unwritten functions g.D.Disk.state g.met.D.Disk.sound c.args.wanted course course c.args.store.now c.take_group.new.store w text c.args.rest.now held written known
    (grouped c.args.wanted.group c.if-not-wanted.false) gathered counts.some (rw c.in-Some.is at c.in-Ok.ensures.takes w known text begins pending)
    (subst (WritesPart held written) c.as_slice.ensures.value c.in-Err-write_lines.ensures.part)
    (fewer_before_due course.pace gathered.records c.before_due-forms.result counts.records c.before_due-forms.ensures)
    c.room_before_grown-bytes.result c.room_before_grown-bytes.ensures.grown (counts.record_bytes, ap (λ (l : GroupLimit). l.version) counts.limit_is ∙ c.version.ensures.value)

pub returns-then-matches-clause-under_way : goal.returns-then-matches-clause-under_way
returns-then-matches-clause-under_way g c = λ ended is.
    let functions = g.R.Meaning.Meaning.functions in
    let here = known_world c.args.store.now.world c.requires.form.is_open in
    let s = c.requires.stands here.0 here.1 in
    let fault : c.in-Err.cause ≡ DeviceFault = elim c.match-matches.branch [
      | in-DeviceFault b ↦ b.in-DeviceFault.is
      | in_default b ↦ let bad : true ≡ false = sym c.if-matches.true ∙ b.matches-is in absurd (cc)
    ] in
    none_of_group functions g.D.Disk.state g.met.D.Disk.sound (g.W.Recipient.account c.args.writer.now) c.args.store.now c.take_group.new.store here.0 c.args.wanted.mode s.0 s.0 c.args.wanted here.1 s.3
    (subst (λ (e : Unlogged). TakesGroup functions c.args.wanted g.D.Disk.state c.args.store.now c.take_group.new.store here.0 s.0 (Err e)) fault (c.in-Err.ensures.takes here.0 here.1 s.0 s.1 s.2))

pub returns-clause-under_way : goal.returns-clause-under_way
returns-clause-under_way g c = λ ended is.
    let here = known_world c.args.store.now.world c.requires.form.is_open in
    let s = c.requires.stands here.0 here.1 in
    let took = rw c.in-Some.is at c.in-Ok.ensures.takes here.0 here.1 s.0 s.1 s.2 in
    let stores = far_stored g.R.Meaning.Meaning.functions c.args.wanted g.D.Disk.state c.args.store.now c.take_group.new.store here.0 s.0 c.in-Some.gathered took in
    none_handed g.R.Meaning.Meaning.functions g.D.Disk.state g.met.D.Disk.sound 0 c.in-Some.gathered.forms (g.W.Recipient.account c.args.writer.now) (g.W.Recipient.account c.write_lines.new.self) c.take_group.new.store took.makes.far.world stores.logs.left
    (hands_lines g.R.Meaning.Meaning.functions g.D.Disk.state g.met.D.Disk.sound c.in-Some.gathered.forms 0 c.in-Some.gathered.forms (g.W.Recipient.account c.args.writer.now) (g.W.Recipient.account c.write_lines.new.self) c.take_group.new.store
    c.write_lines.ensures.kept (omega arith) c.keeps_its_world.ensures)
