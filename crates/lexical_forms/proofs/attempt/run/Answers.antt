use Rattle.std.proofs.Common.{Bool, ◌||◌, ap, ◌∙◌}
use Rattle.lisp_object.specs.Datum.{object_of}
use Rattle.lisp_operators.specs.EvaluationAnswers.{done}
use Rattle.lisp_operators.specs.declared.evaluated.Evaluated.{Evaluated}
use Rattle.lisp_operators.specs.Evaluation.{also}
use Rattle.form_eval.proofs.SoundSymbols.{form_may}
use Rattle.lexical_forms.proofs.Again.{accepted, asked, accepted_refused, asked_refused}
use Rattle.lexical_forms.proofs.attempt.run.Goals as goal

pub evaluate-requires-clause-form : goal.evaluate-requires-clause-form
evaluate-requires-clause-form c =
    let s = c.args.world.now.0 in
    let x = object_of c.args.form.datum in
    let v = c.intern_symbols.new.world.0.packages in
    record { proper = c.requires.form.proper; value = form_may s x v c.in-Ok.interned c.soundness.ensures.present.packages c.requires.form.form c.in-Ok.ensures.gives }

pub returns-in-Ok-evaluate-clause-accepted : goal.returns-in-Ok-evaluate-clause-accepted
returns-in-Ok-evaluate-clause-accepted c =
    accepted c.args.names.now c.args.world.now.0 c.intern_symbols.new.world.0 c.evaluate.new.world.0 (object_of c.args.form.datum) c.in-Ok.interned c.in-Ok.ensures.gives
    (ap (λ w. w.0) c.intern_symbols.ensures.rest)
    ∙ ap (also c.in-Ok.interned) c.in-Ok-evaluate.ensures.gives

pub returns-in-Ok-evaluate-clause-asked : goal.returns-in-Ok-evaluate-clause-asked
returns-in-Ok-evaluate-clause-asked c =
    asked c.args.names.now c.args.world.now.0 c.intern_symbols.new.world.0 c.evaluate.new.world.0 (object_of c.args.form.datum) c.in-Ok.interned c.in-Ok.ensures.gives
    (ap (λ w. w.0) c.intern_symbols.ensures.rest)
    ∙ c.in-Ok-evaluate.ensures.gives

pub returns-in-Err-evaluate-clause-accepted : goal.returns-in-Err-evaluate-clause-accepted
returns-in-Err-evaluate-clause-accepted c =
    accepted_refused c.args.names.now c.args.world.now.0 c.intern_symbols.new.world.0 c.evaluate.new.world.0 (object_of c.args.form.datum) c.in-Ok.interned c.in-Ok.ensures.gives
    (ap (λ w. w.0) c.intern_symbols.ensures.rest) done (λ (p : Bool × Evaluated) s. let d = done p.1 s in record d { wrote = (p.0 || d.wrote) })
    c.in-Err-evaluate.error c.in-Err-evaluate.ensures.gives

pub returns-in-Err-evaluate-clause-asked : goal.returns-in-Err-evaluate-clause-asked
returns-in-Err-evaluate-clause-asked c =
    asked_refused c.args.names.now c.args.world.now.0 c.intern_symbols.new.world.0 c.evaluate.new.world.0 (object_of c.args.form.datum) c.in-Ok.interned c.in-Ok.ensures.gives
    (ap (λ w. w.0) c.intern_symbols.ensures.rest) done (λ (p : Bool × Evaluated). done p.1)
    c.in-Err-evaluate.error c.in-Err-evaluate.ensures.gives
