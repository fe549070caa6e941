use Rattle.std.proofs.Common.{[], Some, IsSome, Ok, Err, refl, subst, sym}
use Rattle.lisp_object.specs.Datum.{object_of}
use Rattle.plist_state.specs.Sound.{IsSoundWorldState}
use Rattle.plist_state.specs.State.{WorldState}
use Rattle.lisp_object.specs.declared.refusal.TheConstants.{OUTPUT}
use Rattle.prevalence_store.specs.calls.Store.{StoreView}
use Rattle.sessions.specs.declared.answer.Answered.{Answered}
use Rattle.sessions.specs.steps.Answer.{MayBeHeard, TriesForm}
use Rattle.sessions.specs.steps.Forms.{of_unlogged}
use Rattle.sessions.specs.steps.Standing.{AcknowledgesNone, HandsOn}
use Rattle.prevalence_store.proofs.calls.Executing.{known_world}
use Rattle.sessions.proofs.Pendings.{begins_whole, may_evaluate}
use Rattle.sessions.proofs.FormAnswers.{form_answered, form_heard, form_stops, form_unwritten, full_unchanged, line_known}
use Rattle.sessions.proofs.Handing.{hands_lines, line_stored, written_alone, none_handed, none_of_form}
use Rattle.sessions.proofs.answer.try_form.Goals as goal

pub take_reply-requires : goal.take_reply-requires
take_reply-requires g c =
    let functions = g.R.Meaning.Meaning.functions in record {
      form = record {
        is_open = c.requires.form.is_open;
        reads = λ w known.
            let b = c.requires.form.begins w known in
            begins_whole functions w c.args.mode b.0 (object_of c.args.form.now.read.now.datum) c.args.form.now.own.now b.1.0 b.1.1;
        may = λ w known.
            let same = c.open_world.ensures.one w known in
            may_evaluate functions w c.args.mode c.args.form.now.read.now c.args.form.now.own.now c.requires.form.proper c.requires.form.sound (c.requires.form.all_there w known)
            (c.requires.form.begins w known) (subst (λ (v : WorldState). IsSoundWorldState v) same c.soundness.ensures.present);
      };
    }

pub hand_on-requires : goal.hand_on-requires
hand_on-requires g c =
    let functions = g.R.Meaning.Meaning.functions in
    let here = known_world c.args.store.now.world c.requires.form.is_open in
    let read = c.args.form.now.read.now in
    let own = c.args.form.now.own.now in
    let r = c.in-Ok.ensures.takes in
    let line = c.in-Ok.reply.line.items in record {
      is_open = line_known functions g.D.Disk.state c.args.store.now c.take_reply.new.store here.0 c.args.mode own (object_of read.datum) r.answer line r.takes r.line here.1;
      heard =
          let same = c.open_world.ensures.one here.0 here.1 in
          let may = may_evaluate functions here.0 c.args.mode read own c.requires.form.proper c.requires.form.sound (c.requires.form.all_there here.0 here.1)
          (c.requires.form.begins here.0 here.1) (subst (λ (v : WorldState). IsSoundWorldState v) same c.soundness.ensures.present) in
          subst (λ (a : Answered). MayBeHeard functions c.take_reply.new.store.world a read) (sym r.told)
          (form_heard functions g.D.Disk.state c.args.store.now c.take_reply.new.store here.0 c.args.mode own read r.answer r.takes here.1 may);
      stored = λ kept is.
          let s = c.requires.stands here.0 here.1 in
          line_stored functions g.D.Disk.state g.met.D.Disk.sound kept c.args.store.now c.take_reply.new.store here.0 c.args.mode s.0 _ (s.3 kept is) here.1 line _
          (form_answered functions g.D.Disk.state g.met.D.Disk.sound c.args.store.now c.take_reply.new.store here.0 c.args.mode s.0 (Some []) (Some line)
          here.1 s.2.start s.2.stop s.1 (object_of read.datum) s.2.reads own s.2.is_own r.answer line
          r.takes r.line (written_alone line) _ refl) refl;
    }

pub returns-in-Ok-hand_on-clause-hands : goal.returns-in-Ok-hand_on-clause-hands
returns-in-Ok-hand_on-clause-hands g c =
    subst (λ (s : StoreView g.row.D.Denot g.row.R.Denot). HandsOn g.R.Meaning.Meaning.functions g.D.Disk.state 0 1 (g.W.Recipient.account c.args.writer.now) (g.W.Recipient.account c.hand_on.new.writer) s)
    (sym c.hand_on.ensures.same)
    (hands_lines g.R.Meaning.Meaning.functions g.D.Disk.state g.met.D.Disk.sound 1 0 1 (g.W.Recipient.account c.args.writer.now) (g.W.Recipient.account c.hand_on.new.writer) c.take_reply.new.store
    c.hand_on.ensures.kept refl c.keeps_its_world.ensures)

pub returns-in-Err-clause-tries : goal.returns-in-Err-clause-tries
returns-in-Err-clause-tries g c = λ w known text next begins.
    let functions = g.R.Meaning.Meaning.functions in
    form_stops functions g.D.Disk.state g.met.D.Disk.sound c.args.store.now c.take_reply.new.store w c.args.mode text (g.W.Recipient.contents c.args.writer.now) (g.W.Recipient.contents c.args.writer.now)
    known begins.start begins.stop next (object_of c.args.form.now.read.now.datum) begins.reads c.args.form.now.own.now begins.is_own c.in-Err.failure _
    c.in-Err.ensures.left c.number.ensures refl

pub returns-in-Ok-hand_on-clause-tries : goal.returns-in-Ok-hand_on-clause-tries
returns-in-Ok-hand_on-clause-tries g c = λ w known text next begins.
    let functions = g.R.Meaning.Meaning.functions in
    let r = c.in-Ok.ensures.takes in
    let held = g.W.Recipient.contents c.args.writer.now in
    let written = g.W.Recipient.contents c.hand_on.new.writer in
    subst (λ (s : StoreView g.row.D.Denot g.row.R.Denot). TriesForm functions g.D.Disk.state c.args.store.now s w c.args.mode text held written (Ok c.in-Ok.reply.answered)) (sym c.hand_on.ensures.same)
    (form_answered functions g.D.Disk.state g.met.D.Disk.sound c.args.store.now c.take_reply.new.store w c.args.mode text held written
    known begins.start begins.stop next (object_of c.args.form.now.read.now.datum) begins.reads c.args.form.now.own.now begins.is_own r.answer c.in-Ok.reply.line.items
    r.takes r.line c.in-Ok-hand_on.ensures.whole c.in-Ok.reply.answered r.told)

pub returns-in-Ok-hand_on-clause-is_open : goal.returns-in-Ok-hand_on-clause-is_open
returns-in-Ok-hand_on-clause-is_open g c =
    let functions = g.R.Meaning.Meaning.functions in
    let here = known_world c.args.store.now.world c.requires.form.is_open in
    let r = c.in-Ok.ensures.takes in
    subst (λ (s : StoreView g.row.D.Denot g.row.R.Denot). IsSome s.world) (sym c.hand_on.ensures.same)
    (line_known functions g.D.Disk.state c.args.store.now c.take_reply.new.store here.0 c.args.mode c.args.form.now.own.now (object_of c.args.form.now.read.now.datum) r.answer c.in-Ok.reply.line.items
    r.takes r.line here.1)

pub returns-clause-tries : goal.returns-clause-tries
returns-clause-tries g c = λ w known text next begins.
    let functions = g.R.Meaning.Meaning.functions in
    let r = c.in-Ok.ensures.takes in
    let held = g.W.Recipient.contents c.args.writer.now in
    let written = g.W.Recipient.contents c.hand_on.new.writer in
    subst (λ (s : StoreView g.row.D.Denot g.row.R.Denot). TriesForm functions g.D.Disk.state c.args.store.now s w c.args.mode text held written (Err OUTPUT)) (sym c.hand_on.ensures.same)
    (form_unwritten functions g.D.Disk.state g.met.D.Disk.sound c.args.store.now c.take_reply.new.store w c.args.mode text held written
    known begins.start begins.stop next (object_of c.args.form.now.read.now.datum) begins.reads c.args.form.now.own.now begins.is_own r.answer c.in-Ok.reply.line.items
    r.takes r.line c.in-Err-hand_on.ensures.part)

pub returns-in-Err-clause-unchanged : goal.returns-in-Err-clause-unchanged
returns-in-Err-clause-unchanged g c =
    let functions = g.R.Meaning.Meaning.functions in
    full_unchanged functions c.args.store.now c.take_reply.new.store c.in-Err.failure _ c.in-Err.ensures.left.unchanged c.number.ensures

pub returns-in-Err-clause-under_way : goal.returns-in-Err-clause-under_way
returns-in-Err-clause-under_way g c =
    let here = known_world c.args.store.now.world c.requires.form.is_open in
    let s = c.requires.stands here.0 here.1 in
    none_of_form g.R.Meaning.Meaning.functions g.D.Disk.state g.met.D.Disk.sound (g.W.Recipient.account c.args.writer.now) c.args.store.now c.take_reply.new.store here.0 c.args.mode s.0 c.args.form.now.own.now (object_of c.args.form.now.read.now.datum) (of_unlogged c.in-Err.failure) here.1 s.3 c.in-Err.ensures.left

-- the writer failed
pub returns-clause-under_way : goal.returns-clause-under_way
returns-clause-under_way g c =
    let here = known_world c.args.store.now.world c.requires.form.is_open in
    let r = c.in-Ok.ensures.takes in
    let new = known_world c.take_reply.new.store.world
    (line_known g.R.Meaning.Meaning.functions g.D.Disk.state c.args.store.now c.take_reply.new.store here.0 c.args.mode c.args.form.now.own.now (object_of c.args.form.now.read.now.datum) r.answer c.in-Ok.reply.line.items r.takes r.line here.1) in
    subst (λ (s : StoreView g.row.D.Denot g.row.R.Denot). AcknowledgesNone g.R.Meaning.Meaning.functions g.D.Disk.state (g.W.Recipient.account c.hand_on.new.writer) s) (sym c.hand_on.ensures.same)
    (none_handed g.R.Meaning.Meaning.functions g.D.Disk.state g.met.D.Disk.sound 0 1 (g.W.Recipient.account c.args.writer.now) (g.W.Recipient.account c.hand_on.new.writer) c.take_reply.new.store new.0 new.1
    (hands_lines g.R.Meaning.Meaning.functions g.D.Disk.state g.met.D.Disk.sound 1 0 1 (g.W.Recipient.account c.args.writer.now) (g.W.Recipient.account c.hand_on.new.writer) c.take_reply.new.store
    c.hand_on.ensures.kept refl c.keeps_its_world.ensures))
