use Rattle.std.proofs.Common.{sym, subst}
use Rattle.plist_state.specs.State.{Worlds}
use Rattle.form_eval.specs.Laws.{MayEvaluate}
use Rattle.lexical_forms.proofs.attempt.attempt.Goals as goal

pub run-requires-clause-form : goal.run-requires-clause-form
run-requires-clause-form c =
    subst (λ (w : Worlds). MayEvaluate w.0.packages c.args.form) (sym c.in_ok-mark.ensures.ok.1) c.requires.form
