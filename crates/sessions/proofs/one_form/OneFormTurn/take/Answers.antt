use Rattle.std.proofs.Common.{Result, refl}
use Rattle.std.proofs.lemmas.Result.{IfOk-weaker}
use Rattle.lisp_object.specs.Datum.{object_of}
use Rattle.lisp_operators.specs.declared.evaluated.Evaluated.{Evaluated}
use Rattle.sessions.specs.steps.Forms.{Failure}
use Rattle.sessions.specs.declared.answer.Reply.{Reply}
use Rattle.sessions.specs.steps.Answer.{IsReplyTo}
use Rattle.prevalence_store.specs.steps.Batch.{entries_in}
use Rattle.sessions.proofs.Replies.{reply_again}
use Rattle.sessions.proofs.one_form.OneFormTurn.take.Goals as goal

pub reply_to-requires : goal.reply_to-requires
reply_to-requires g c = record { form = c.requires.needs.1 }

pub returns-clause-made : goal.returns-clause-made
returns-clause-made g c =
    let turn = c.args.self.now in
    IfOk-weaker c.reply_to.result (λ (reply : Reply). (answer : Result Evaluated Failure) × IsReplyTo g.R.Meaning.Meaning.functions.names turn.mode (object_of turn.form.now.datum) turn.own.now
    c.args.world.now.0 c.reply_to.new.world.0 c.args.batch.now c.reply_to.new.batch reply answer) _
    (λ reply told. record { none = c.args.batch.now; batch = c.reply_to.new.batch; begins = c.requires.none; added = refl; answer = told.0; replies = told.1 }) c.reply_to.ensures.replies

pub returns-clause-again : goal.returns-clause-again
returns-clause-again g c =
    let functions = g.R.Meaning.Meaning.functions in
    let turn = c.args.self.now in
    let w = c.args.world.now.0 in
    let x = object_of turn.form.now.datum in
    IfOk-weaker c.reply_to.result (λ (reply : Reply). (answer : Result Evaluated Failure) × IsReplyTo functions.names turn.mode x turn.own.now w c.reply_to.new.world.0 c.args.batch.now c.reply_to.new.batch reply answer) _
    (λ reply told. (reply_again functions turn.mode turn.own.now x w c.reply_to.new.world.0 (entries_in c.reply_to.new.batch) reply c.requires.needs.0
    (record { none = c.args.batch.now; batch = c.reply_to.new.batch; begins = c.requires.none; added = refl; answer = told.0; replies = told.1 })).0) c.reply_to.ensures.replies

pub returns-clause-fit : goal.returns-clause-fit
returns-clause-fit g c =
    let functions = g.R.Meaning.Meaning.functions in
    let turn = c.args.self.now in
    let w = c.args.world.now.0 in
    let x = object_of turn.form.now.datum in
    IfOk-weaker c.reply_to.result (λ (reply : Reply). (answer : Result Evaluated Failure) × IsReplyTo functions.names turn.mode x turn.own.now w c.reply_to.new.world.0 c.args.batch.now c.reply_to.new.batch reply answer) _
    (λ reply told. (reply_again functions turn.mode turn.own.now x w c.reply_to.new.world.0 (entries_in c.reply_to.new.batch) reply c.requires.needs.0
    (record { none = c.args.batch.now; batch = c.reply_to.new.batch; begins = c.requires.none; added = refl; answer = told.0; replies = told.1 })).1) c.reply_to.ensures.replies
