use Rattle.std.proofs.Common.{refl, sym, subst, ◌∙◌, arith}
use Rattle.form_reader.specs.Reader.{fed}
use Rattle.lisp_object.specs.Datum.{object_of}
use Rattle.sessions.specs.declared.input.Fed.{Fed}
use Rattle.sessions.specs.steps.Course.{course_of}
use Rattle.sessions.specs.steps.Input.{AreAllThere, FinishesInput, IsSoundFed, PlacesAreWithin}
use Rattle.sessions.specs.steps.Serve.{EndsAt}
use Rattle.sessions.proofs.EndedAt.{done_at_end, fault_at_end, memory_at_end, read_at_end}
use Rattle.sessions.proofs.Pieces.{ended_form, last_begins, last_start}
use Rattle.sessions.proofs.Handing.{none_handed, none_standing_all}
use Rattle.prevalence_store.proofs.calls.Executing.{known_world}
use Rattle.sessions.proofs.serving.answer_end.Goals as goal

pub returns-in-Err-clause-ends : goal.returns-in-Err-clause-ends
returns-in-Err-clause-ends g c = λ w known bytes p.
    memory_at_end g.R.Meaning.Meaning.functions g.D.Disk.state g.met.D.Disk.sound c.args.wanted (course_of c.args.course.now) c.args.store.now w c.args.wanted.mode bytes (g.W.Recipient.contents c.args.writer.now) known

pub returns-in-Nothing-clause-ends : goal.returns-in-Nothing-clause-ends
returns-in-Nothing-clause-ends g c = λ w known bytes p.
    let functions = g.R.Meaning.Meaning.functions in
    done_at_end functions g.D.Disk.state g.met.D.Disk.sound c.args.wanted (course_of c.args.course.now) c.args.store.now w c.args.wanted.mode bytes (g.W.Recipient.contents c.args.writer.now) known
    (sym (subst (λ (f : Fed). FinishesInput functions w c.args.wanted.mode bytes f) c.in-Nothing.is (c.in-Ok.ensures.finishes w known bytes p)))

pub place-place-requires-clause-start : goal.place-place-requires-clause-start
place-place-requires-clause-start g c = let within = subst (λ (given : Fed). PlacesAreWithin (fed c.args.pending.reader) given) c.in-Refused.is c.in-Ok.ensures.within in omega (arith, within.0, c.requires.count)

pub place-place-requires-clause-at : goal.place-place-requires-clause-at
place-place-requires-clause-at g c = let within = subst (λ (given : Fed). PlacesAreWithin (fed c.args.pending.reader) given) c.in-Refused.is c.in-Ok.ensures.within in omega (arith, within.1, c.requires.count)

pub returns-in-Refused-clause-ends : goal.returns-in-Refused-clause-ends
returns-in-Refused-clause-ends g c = λ w known bytes p.
    let functions = g.R.Meaning.Meaning.functions in
    let f = c.in-Refused in
    let held = g.W.Recipient.contents c.args.writer.now in
    let written = g.W.Recipient.contents c.answer_fault.new.writer in
    let course = course_of c.args.course.now in
    let told = subst (λ (fed : Fed). FinishesInput functions w c.args.wanted.mode bytes fed) f.is (c.in-Ok.ensures.finishes w known bytes p) in
    let place = c.place-place.ensures in
    subst (λ ended. EndsAt functions g.D.Disk.state c.args.wanted course c.args.store.now c.answer_fault.new.store w c.args.wanted.mode bytes held written ended) (sym c.at.ensures)
    (fault_at_end functions g.D.Disk.state g.met.D.Disk.sound c.args.wanted course c.args.store.now c.answer_fault.new.store w c.args.wanted.mode bytes held written f.number f.at known told.0
    c.answer_fault.ensures.same f.start c.place-place.result place.0 place.1 place.2 (told.1, told.2) c.answer_fault.result c.answer_fault.ensures.answers)

pub answer_fault-requires-clause-stands : goal.answer_fault-requires-clause-stands
answer_fault-requires-clause-stands g c = λ w known.
    let functions = g.R.Meaning.Meaning.functions in
    let s = c.requires.stands w known in
    let told = subst (λ (fed : Fed). FinishesInput functions w c.args.wanted.mode s.0 fed) c.in-Refused.is (c.in-Ok.ensures.finishes w known s.0 s.1) in
    (s.0, c.in-Refused.at, told.0, s.2)

pub answer_read-requires : goal.answer_read-requires
answer_read-requires g c =
    let f = c.in-Form in
    let within = subst (λ (given : Fed). PlacesAreWithin (fed c.args.pending.reader) given) f.is c.in-Ok.ensures.within in record {
      form = record {
        is_open = c.requires.pending.is_open;
        begins = λ w known.
            let functions = g.R.Meaning.Meaning.functions in
            let p = c.requires.pending.some w known in
            let last = (subst (λ (fed : Fed). FinishesInput functions w c.args.wanted.mode p.0 fed) f.is (c.in-Ok.ensures.finishes w known p.0 p.1)).0 in
            (p.0, (_, last_begins functions w c.args.wanted.mode p.0 (object_of f.form.read.datum) f.form.own.items last f.form.own.items refl));
        proper = (subst IsSoundFed f.is c.in-Ok.ensures.sound).0;
        sound = (subst IsSoundFed f.is c.in-Ok.ensures.sound).1;
        all_there = λ w here. subst (AreAllThere w) f.is (c.in-Ok.ensures.all_there w here);
      };
      stands = λ w known.
          let functions = g.R.Meaning.Meaning.functions in
          let s = c.requires.stands w known in
          let last = (subst (λ (fed : Fed). FinishesInput functions w c.args.wanted.mode s.0 fed) f.is (c.in-Ok.ensures.finishes w known s.0 s.1)).0 in (
            s.0,
            _,
            last_begins functions w c.args.wanted.mode s.0 (object_of f.form.read.datum) f.form.own.items last f.form.own.items refl,
            s.2,
          );
      order = within.0;
      forms = c.requires.forms;
      room = omega (arith, within.1, c.requires.count);
    }

pub returns-clause-ends : goal.returns-clause-ends
returns-clause-ends g c = λ w known bytes p.
    let functions = g.R.Meaning.Meaning.functions in
    let f = c.in-Form in
    let last = subst (λ (fed : Fed). FinishesInput functions w c.args.wanted.mode bytes fed) f.is (c.in-Ok.ensures.finishes w known bytes p) in
    let within = subst (λ (given : Fed). PlacesAreWithin (fed c.args.pending.reader) given) f.is c.in-Ok.ensures.within in
    read_at_end functions g.D.Disk.state c.args.wanted (course_of c.args.course.now) (course_of c.answer_read.new.course) c.args.store.now c.answer_read.new.store w bytes
    (g.W.Recipient.contents c.args.writer.now) (g.W.Recipient.contents c.answer_read.new.writer) f.form.start f.form.next c.in-Err-answer_read.ended
    (c.in-Err-answer_read.ensures.answers w known bytes _
    (last_begins functions w c.args.wanted.mode bytes (object_of f.form.read.datum) f.form.own.items last.0 f.form.own.items refl)
    (last_start functions w c.args.wanted.mode bytes (object_of f.form.read.datum) f.form.own.items last.0 f.form.own.items refl ∙ last.1))
    (let count = p.count in omega (arith, within.0, within.1, count))

pub returns-in-Ok-answer_read-clause-ends : goal.returns-in-Ok-answer_read-clause-ends
returns-in-Ok-answer_read-clause-ends g c = λ w known bytes p.
    let functions = g.R.Meaning.Meaning.functions in
    let f = c.in-Form in
    let last = subst (λ (fed : Fed). FinishesInput functions w c.args.wanted.mode bytes fed) f.is (c.in-Ok.ensures.finishes w known bytes p) in
    let passed = c.in-Ok-answer_read.ensures.answers w known bytes _
    (last_begins functions w c.args.wanted.mode bytes (object_of f.form.read.datum) f.form.own.items last.0 f.form.own.items refl)
    (last_start functions w c.args.wanted.mode bytes (object_of f.form.read.datum) f.form.own.items last.0 f.form.own.items refl ∙ last.1) in
    ended_form functions w c.args.wanted.mode bytes (object_of f.form.read.datum) f.form.own.items last.0 g.D.Disk.state c.args.wanted refl (course_of c.args.course.now) (course_of c.answer_read.new.course) c.args.store.now c.answer_read.new.store
    (g.W.Recipient.contents c.args.writer.now) (g.W.Recipient.contents c.answer_read.new.writer) f.form.start f.form.next passed.0 passed.1 passed.2

pub returns-in-Err-clause-under_way : goal.returns-in-Err-clause-under_way
returns-in-Err-clause-under_way g c =
    let here = known_world c.args.store.now.world c.requires.pending.is_open in
    let s = c.requires.stands here.0 here.1 in
    none_standing_all g.R.Meaning.Meaning.functions g.D.Disk.state g.met.D.Disk.sound (g.W.Recipient.account c.args.writer.now) c.args.store.now here.0 c.args.wanted.mode s.0 here.1 s.2

pub returns-in-Nothing-clause-under_way : goal.returns-in-Nothing-clause-under_way
returns-in-Nothing-clause-under_way g c =
    let here = known_world c.args.store.now.world c.requires.pending.is_open in
    let s = c.requires.stands here.0 here.1 in
    none_standing_all g.R.Meaning.Meaning.functions g.D.Disk.state g.met.D.Disk.sound (g.W.Recipient.account c.args.writer.now) c.args.store.now here.0 c.args.wanted.mode s.0 here.1 s.2

pub returns-in-Ok-answer_read-clause-under_way : goal.returns-in-Ok-answer_read-clause-under_way
returns-in-Ok-answer_read-clause-under_way g c =
    let functions = g.R.Meaning.Meaning.functions in
    let here = known_world c.args.store.now.world c.requires.pending.is_open in
    let s = c.requires.stands here.0 here.1 in
    let f = c.in-Form in
    let last = subst (λ (fed : Fed). FinishesInput functions here.0 c.args.wanted.mode s.0 fed) f.is (c.in-Ok.ensures.finishes here.0 here.1 s.0 s.1) in
    let passed = c.in-Ok-answer_read.ensures.answers here.0 here.1 s.0 _
    (last_begins functions here.0 c.args.wanted.mode s.0 (object_of f.form.read.datum) f.form.own.items last.0 f.form.own.items refl)
    (last_start functions here.0 c.args.wanted.mode s.0 (object_of f.form.read.datum) f.form.own.items last.0 f.form.own.items refl ∙ last.1) in
    none_handed g.R.Meaning.Meaning.functions g.D.Disk.state g.met.D.Disk.sound (course_of c.args.course.now).forms (course_of c.answer_read.new.course).forms (g.W.Recipient.account c.args.writer.now) (g.W.Recipient.account c.answer_read.new.writer) c.answer_read.new.store
    passed.1.far.world passed.1.advances.after.left c.in-Ok-answer_read.ensures.hands
