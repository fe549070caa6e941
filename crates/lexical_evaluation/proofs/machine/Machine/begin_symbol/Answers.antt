use Rattle.lexical_evaluation.specs.Arguments.{AreArguments}
use Rattle.lexical_evaluation.proofs.Handing.{spent_holds, variable_holds, no_arguments, form_more}
use Rattle.std.proofs.Common.{[], ◌∷◌, ◌++◌, All, Some, Err, ap, sym, subst, ◌∙◌}
use Rattle.std.proofs.lemmas.Result.{err_from_is_err_and}
use Rattle.lisp_object.specs.Datum.{object_of}
use Rattle.lisp_operators.specs.EvaluationAnswers.{IsProper, objects}
use Rattle.lisp_operators.specs.declared.error.EvaluationError.{EvaluationError}
use Rattle.kept_functions.specs.Counting.{here, spending, weight}
use Rattle.kept_functions.specs.declared.environment.Binding.{Binding}
use Rattle.kept_functions.specs.Environments.{bound}
use Rattle.lexical_evaluation.specs.declared.frame.Target.TheVariants.{Global}
use Rattle.lexical_evaluation.specs.Values.{value_in, variable_value}
use Rattle.lexical_evaluation.specs.Machine.{Spends, comes_to, around, point_of, variables_seen, finished_in}
use Rattle.lexical_evaluation.proofs.Forms.{symbol_here, symbol_is, step_stops, step_taken}
use Rattle.lexical_evaluation.proofs.Going.{comes_as}
use Rattle.lexical_evaluation.proofs.machine.Machine.begin_symbol.Goals as goal

pub weight-requires : goal.weight-requires
weight-requires c = subst IsProper (sym c.in_ok-value-in-Some.ensures) (c.in-Some.ensures.proper (subst (All (λ (b : Binding). IsProper b.value)) (sym c.as_slice.ensures.value) c.requires.bindings))

pub returns-in_err-spend-in-Some-clause-gives : goal.returns-in_err-spend-in-Some-clause-gives
returns-in_err-spend-in-Some-clause-gives c =
    let m = c.args.self.now in
    let v = object_of c.in_ok-value-in-Some.value in
    let h = c.symbol_in.result.0.now in
    let n = c.symbol_in.result.1.now in
    let r = err_from_is_err_and c.from_residual-in_err-spend-in-Some.result c.from_residual-in_err-spend-in-Some.ensures.1 in
    rw r.1 (λ w s.
    comes_as w s (comes_to w m (value_in (w.rules m.deeper) (around m) (point_of m s) (object_of c.args.symbol)))
    (comes_to w m (spending (weight v) (point_of m s) (λ later. here v later))) c.spend.new.self (Err r.0)
    (ap (comes_to w m)
    (symbol_here (w.rules m.deeper) (around m) (point_of m s) c.args.symbol h n c.requires.symbol c.symbol_in.ensures
    ∙ ap (variable_value (w.rules m.deeper) (h, n) (point_of m s)) (ap (λ l. bound (variables_seen l) (h, n)) (sym c.as_slice.ensures.value) ∙ sym c.in-Some.ensures.value ∙ ap (λ d. Some (object_of d)) (sym c.in_ok-value-in-Some.ensures))))
    (step_stops w s (weight v) m c.spend.new.self (λ rules seen later. here v later) c.spend.new.self r.0
    (subst (λ (e : EvaluationError). Spends (weight v) m c.spend.new.self (Err e)) (sym r.2) (c.in_err-spend-in-Some.ensures (weight v) c.weight.ensures))))

pub returns-in_ok-spend-in-Some-clause-gives : goal.returns-in_ok-spend-in-Some-clause-gives
returns-in_ok-spend-in-Some-clause-gives c = λ w s.
    let m = c.args.self.now in
    let v = object_of c.in_ok-value-in-Some.value in
    let h = c.symbol_in.result.0.now in
    let n = c.symbol_in.result.1.now in
    ap (comes_to w m)
    (symbol_here (w.rules m.deeper) (around m) (point_of m s) c.args.symbol h n c.requires.symbol c.symbol_in.ensures
    ∙ ap (variable_value (w.rules m.deeper) (h, n) (point_of m s)) (ap (λ l. bound (variables_seen l) (h, n)) (sym c.as_slice.ensures.value) ∙ sym c.in-Some.ensures.value ∙ ap (λ d. Some (object_of d)) (sym c.in_ok-value-in-Some.ensures)))
    ∙ step_taken w s (weight v) m c.spend.new.self (λ rules seen later. here v later) tt (c.in_ok-spend-in-Some.ensures (weight v) c.weight.ensures)

pub returns-in_ok-push-in-None-clause-gives : goal.returns-in_ok-push-in-None-clause-gives
returns-in_ok-push-in-None-clause-gives c = λ w s.
    let m = c.args.self.now in
    let h = c.symbol_in.result.0.now in
    let n = c.symbol_in.result.1.now in
    let p = point_of m s in
    let rules = w.rules m.deeper in
    ap (comes_to w m)
    (symbol_here rules (around m) p c.args.symbol h n c.requires.symbol c.symbol_in.ensures
    ∙ ap (variable_value rules (h, n) p) (ap (λ l. bound (variables_seen l) (h, n)) (sym c.as_slice.ensures.value) ∙ sym c.in-None.ensures.value)
    ∙ ap (λ x. finished_in rules w.does (around m) Global (x ∷ []) p) (sym (symbol_is rules (around m) p c.args.symbol h n c.requires.symbol c.symbol_in.ensures))
    ∙ ap (λ l. finished_in rules w.does (around m) Global (objects l) p) (sym (c.in_ok-push-in-None.ensures.items ∙ ap (λ l. l ++ c.args.symbol ∷ []) c.new-values.ensures.items)))

pub returns-in_err-spend-in-Some-clause-arguments : goal.returns-in_err-spend-in-Some-clause-arguments
returns-in_err-spend-in-Some-clause-arguments c =
    let r = err_from_is_err_and c.from_residual-in_err-spend-in-Some.result c.from_residual-in_err-spend-in-Some.ensures.1 in
    rw r.1 (λ u hand argument. tt)

pub returns-in_ok-spend-in-Some-clause-arguments : goal.returns-in_ok-spend-in-Some-clause-arguments
returns-in_ok-spend-in-Some-clause-arguments c = λ u hand argument.
    let v = c.in_ok-value-in-Some.value in (
      spent_holds u (weight (object_of v)) c.args.self.now c.spend.new.self tt (c.in_ok-spend-in-Some.ensures (weight (object_of v)) c.weight.ensures) hand,
      record {
        proper = subst IsProper (sym c.in_ok-value-in-Some.ensures) (c.in-Some.ensures.proper (subst (All (λ (b : Binding). IsProper b.value)) (sym c.as_slice.ensures.value) c.requires.bindings));
        value = variable_holds u c.args.self.now.bindings.items (c.symbol_in.result.0.now, c.symbol_in.result.1.now) (object_of v) hand.bindings
            (ap (λ d. Some (object_of d)) c.in_ok-value-in-Some.ensures ∙ c.in-Some.ensures.value ∙ ap (λ l. bound (variables_seen l) (c.symbol_in.result.0.now, c.symbol_in.result.1.now)) c.as_slice.ensures.value);
      },
    )

pub returns-in_ok-push-in-None-clause-arguments : goal.returns-in_ok-push-in-None-clause-arguments
returns-in_ok-push-in-None-clause-arguments c = λ u hand argument. (hand, (tt, form_more u c.new-values.result.items c.push.new.self.items c.args.symbol c.in_ok-push-in-None.ensures.items (subst (AreArguments u) (sym c.new-values.ensures.items) (no_arguments u)) argument))
