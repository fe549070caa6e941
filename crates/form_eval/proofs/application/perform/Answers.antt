use Rattle.std.proofs.Common.{sym, subst}
use Rattle.plist_state.specs.State.{Worlds}
use Rattle.form_eval.specs.Laws.{MayEvaluate}
use Rattle.form_eval.proofs.application.perform.Goals as goal

pub run-requires-clause-form : goal.run-requires-clause-form
run-requires-clause-form c =
    subst (λ (w : Worlds). MayEvaluate w.0.packages c.args.form) (sym c.in-Ok.ensures.ok.1) c.requires.form
