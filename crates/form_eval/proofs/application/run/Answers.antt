use Rattle.std.proofs.Common.{Ok, ap, sym, ◌∙◌}
use Rattle.lisp_object.specs.Datum.{object_of}
use Rattle.evaluator.specs.FormsGivenBack.{wants_function}
use Rattle.form_eval.proofs.Applied.{applied_left, applied_refused, interning_wants_none}
use Rattle.form_eval.proofs.SoundSymbols.{form_may}
use Rattle.form_eval.proofs.application.run.Goals as goal

pub apply-requires-clause-form : goal.apply-requires-clause-form
apply-requires-clause-form c =
    let s = c.args.world.now.0 in
    let x = object_of c.args.form.datum in
    let v = c.intern_symbols.new.world.0.packages in
    record { proper = c.requires.form.proper; value = form_may s x v c.in-Ok.interned c.soundness.ensures.present.packages c.requires.form.form c.in-Ok.ensures.gives }

pub returns-in-Ok-apply-clause-gives : goal.returns-in-Ok-apply-clause-gives
returns-in-Ok-apply-clause-gives c =
    let t = c.apply.new.world.0 in
    applied_left c.args.names.now c.args.world.now.0 c.intern_symbols.new.world.0 t (object_of c.args.form.datum) c.in-Ok.interned c.in-Ok.ensures.gives
    (ap (λ w. w.0) c.intern_symbols.ensures.rest) c.in-Ok-apply.wrote c.in-Ok-apply.ensures.gives
    ∙ ap (λ b. Ok (t, b)) (sym c.either.ensures)

pub returns-in-Err-apply-clause-gives : goal.returns-in-Err-apply-clause-gives
returns-in-Err-apply-clause-gives c =
    applied_refused c.args.names.now c.args.world.now.0 c.intern_symbols.new.world.0 c.apply.new.world.0 (object_of c.args.form.datum) c.in-Ok.interned c.in-Ok.ensures.gives
    (ap (λ w. w.0) c.intern_symbols.ensures.rest) c.in-Err-apply.refused.0 c.in-Err-apply.ensures.gives

pub returns-in-Err-clause-kept : goal.returns-in-Err-clause-kept
returns-in-Err-clause-kept c = ap wants_function c.from.ensures ∙ interning_wants_none c.in-Err.error
