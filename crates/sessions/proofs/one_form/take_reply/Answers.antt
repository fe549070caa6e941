use Rattle.std.proofs.lemmas.Result.{IfErr-weaker, IfOk-weaker}
use Rattle.lisp_object.specs.Datum.{object_of}
use Rattle.prevalence_store.proofs.calls.Executing.{known_world}
use Rattle.sessions.proofs.Replies.{reply_logged, reply_unlogged}
use Rattle.sessions.proofs.one_form.take_reply.Goals as goal

pub together-requires-clause-is_open : goal.together-requires-clause-is_open
together-requires-clause-is_open g c = c.requires.form.is_open

pub together-requires-clause-needs : goal.together-requires-clause-needs
together-requires-clause-needs g c = λ w known. (c.requires.form.reads w known, c.requires.form.may w known)

pub returns-clause-takes : goal.returns-clause-takes
returns-clause-takes g c =
    let here = known_world c.args.store.now.world c.requires.form.is_open in
    IfOk-weaker c.together.result _ _
    (λ reply made. reply_logged g.R.Meaning.Meaning.functions c.args.mode c.args.text.now (object_of c.args.form.now.datum) here.0 g.D.Disk.state g.met.D.Disk.sound c.args.store.now c.together.new.self here.1
    (c.requires.form.reads here.0 here.1) reply made) (c.together.ensures.made here.0 here.1)

pub returns-clause-left : goal.returns-clause-left
returns-clause-left g c =
    let here = known_world c.args.store.now.world c.requires.form.is_open in
    IfErr-weaker c.together.result _ _
    (λ cause left. reply_unlogged g.R.Meaning.Meaning.functions c.args.mode c.args.text.now (object_of c.args.form.now.datum) here.0 g.D.Disk.state g.met.D.Disk.sound c.args.store.now c.together.new.self here.1
    (c.requires.form.reads here.0 here.1) cause left) (c.together.ensures.left here.0 here.1)
