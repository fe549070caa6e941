use Rattle.std.proofs.Common.{sym, subst, ◌∙◌}
use Rattle.lisp_object.specs.Datum.{object_of}
use Rattle.lisp_operators.specs.Effects.{Leaves}
use Rattle.prevalence_store.proofs.meaning.Transactions.{forgetting_form, not_forgetting}
use Rattle.prevalence_store.proofs.transaction.carry_out.Goals as goal

pub returns-then-is_forgetting-clause-gives : goal.returns-then-is_forgetting-clause-gives
returns-then-is_forgetting-clause-gives g c =
    subst (Leaves c.forget_silently.result c.forget_silently.new.world.0)
    (sym (forgetting_form g.R.Meaning.Meaning.functions.names c.args.world.now.0 (object_of c.args.form.datum) (sym c.is_forgetting.ensures ∙ c.if-is_forgetting.true))) c.forget_silently.ensures.gives

pub returns-clause-gives : goal.returns-clause-gives
returns-clause-gives g c =
    subst (Leaves c.apply.result c.apply.new.world.0)
    (sym (not_forgetting g.R.Meaning.Meaning.functions.names c.args.world.now.0 (object_of c.args.form.datum) (sym c.is_forgetting.ensures ∙ c.if-is_forgetting.false))) c.apply.ensures.gives
