use Rattle.std.proofs.Common.{true, Result, refl, subst}
use Rattle.plist_state.specs.declared.error.ReadtableError.{ReadtableError}
use Rattle.plist_state.specs.Changes.{AnswersReadtables as Tells}
use Rattle.lisp_operators.proofs.ReadtableSteps.{told_made, told_refused}
use Rattle.lisp_operators.proofs.readtables.changed.Goals as goal

pub returns-in_ok-truth-in-Ok-clause-gives : goal.returns-in_ok-truth-in-Ok-clause-gives
returns-in_ok-truth-in-Ok-clause-gives c = λ s later said told.
    told_made s later said (record { value = c.in_ok-truth-in-Ok.field-0; wrote = true }) c.in_ok-truth-in-Ok.ensures.value refl (subst (λ (m : Result Unit ReadtableError). Tells {A = Unit} (λ _. later) m said) c.in-Ok.is told)

pub returns-in-Err-clause-gives : goal.returns-in-Err-clause-gives
returns-in-Err-clause-gives c = λ s later said told.
    told_refused s later said c.in-Err.error c.from.result c.from.ensures (subst (λ (m : Result Unit ReadtableError). Tells {A = Unit} (λ _. later) m said) c.in-Err.is told)
