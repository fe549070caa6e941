use Rattle.lexical_evaluation.specs.Arguments.{AreArguments}
use Rattle.lexical_evaluation.proofs.Apart.{reversed_all}
use Rattle.lexical_evaluation.proofs.Handing.{popped, spent_holds}
use Rattle.std.proofs.Common.{◌^◌, ◌-◌, min, Err, ap, sym, subst, ◌∙◌, arith}
use Rattle.std.proofs.lemmas.Result.{err_from_is_err_and}
use Rattle.lisp_operators.specs.declared.error.EvaluationError.{EvaluationError}
use Rattle.lisp_object.specs.Object.{list_of}
use Rattle.lisp_object.specs.Datum.{object_of}
use Rattle.lisp_object.specs.declared.refusal.TheConstants.{ARGUMENT_COUNT, ARGUMENT_KIND}
use Rattle.lisp_operators.specs.EvaluationAnswers.{objects, IsArgument}
use Rattle.lisp_operators.specs.Members.{symbols_in}
use Rattle.kept_functions.specs.Counting.{weight}
use Rattle.lexical_evaluation.specs.Machine.{Spends, comes_to, around, point_of, to_come, written_in}
use Rattle.lexical_evaluation.proofs.Calling.{written_none, written_other}
use Rattle.lexical_evaluation.proofs.Running.{written_on, written_stops, no_parts, parts_apart, counts_differ, counts_same}
use Rattle.lexical_evaluation.proofs.Continuing.{refused}
use Rattle.lexical_evaluation.proofs.machine.Machine.call_written.Goals as goal

pub returns-in-None-clause-gives : goal.returns-in-None-clause-gives
returns-in-None-clause-gives c = λ w s.
    let m = c.args.self.now in
    ap (λ x. comes_to w m (written_in (w.rules m.deeper) (around m) x (objects c.args.values.items) (point_of m s))) (no_parts c.args.parts.items c.reverse.new.self.items c.reverse.ensures.items (grind (arith, c.in-None.ensures)))
    ∙ refused w m ARGUMENT_COUNT

pub returns-in-None-variables_in-clause-gives : goal.returns-in-None-variables_in-clause-gives
returns-in-None-variables_in-clause-gives c = λ w s.
    let m = c.args.self.now in
    let xs = objects c.args.values.items in
    let rest = c.pop.new.self.items in
    ap (λ x. comes_to w m (written_in (w.rules m.deeper) (around m) x xs (point_of m s))) (parts_apart c.args.parts.items c.reverse.new.self.items rest c.pop.result c.in-Some.written c.reverse.ensures.items c.pop.ensures.items c.in-Some.is)
    ∙ ap (comes_to w m) (written_none (w.rules m.deeper) (around m) (object_of c.in-Some.written) (to_come rest) xs (point_of m s) c.in-None-variables_in.ensures.value)
    ∙ refused w m ARGUMENT_KIND

pub returns-then-variables-len-clause-gives : goal.returns-then-variables-len-clause-gives
returns-then-variables-len-clause-gives c = λ w s.
    let m = c.args.self.now in
    let xs = objects c.args.values.items in
    let rest = c.pop.new.self.items in
    let found = c.in-Some-variables_in in
    ap (λ x. comes_to w m (written_in (w.rules m.deeper) (around m) x xs (point_of m s))) (parts_apart c.args.parts.items c.reverse.new.self.items rest c.pop.result c.in-Some.written c.reverse.ensures.items c.pop.ensures.items c.in-Some.is)
    ∙ ap (comes_to w m) (written_other (w.rules m.deeper) (around m) (object_of c.in-Some.written) (to_come rest) xs (point_of m s) (symbols_in found.variables.now) found.ensures.value
    (counts_differ found.variables.now c.args.values.items c.len.result (grind (arith, c.len.ensures)) c.if-variables-len.true))
    ∙ refused w m ARGUMENT_COUNT

pub returns-in_err-spend-in-Some-variables_in-clause-gives : goal.returns-in_err-spend-in-Some-variables_in-clause-gives
returns-in_err-spend-in-Some-variables_in-clause-gives c =
    let m = c.args.self.now in
    let found = c.in-Some-variables_in in
    let rest = c.pop.new.self.items in
    let parts = list_of (objects c.args.parts.items) in
    let p = err_from_is_err_and c.from_residual.result c.from_residual.ensures.1 in
    rw p.1
    (written_stops m c.spend.new.self (object_of c.in-Some.written) (to_come rest) parts (symbols_in found.variables.now) (objects c.args.values.items) found.ensures.value
    (counts_same found.variables.now c.args.values.items c.len.result (grind (arith, c.len.ensures)) c.if-variables-len.false)
    (parts_apart c.args.parts.items c.reverse.new.self.items rest c.pop.result c.in-Some.written c.reverse.ensures.items c.pop.ensures.items c.in-Some.is)
    c.spend.new.self p.0
    (subst (λ (e : EvaluationError). Spends (weight parts) m c.spend.new.self (Err e)) (sym p.2)
    (c.in_err-spend-in-Some-variables_in.ensures (weight parts) (c.weight_of_list-steps.ensures ∙ ap (λ l. min (weight (list_of (objects l))) (2 ^ 64 - 1)) c.as_slice.ensures.value))))

pub returns-in_ok-spend-in-Some-variables_in-clause-gives : goal.returns-in_ok-spend-in-Some-variables_in-clause-gives
returns-in_ok-spend-in-Some-variables_in-clause-gives c =
    let found = c.in-Some-variables_in in
    let rest = c.pop.new.self.items in
    written_on c.args.self.now c.spend.new.self (object_of c.in-Some.written) (to_come rest) (list_of (objects c.args.parts.items)) (symbols_in found.variables.now) (objects c.args.values.items) found.ensures.value
    (counts_same found.variables.now c.args.values.items c.len.result (grind (arith, c.len.ensures)) c.if-variables-len.false)
    (parts_apart c.args.parts.items c.reverse.new.self.items rest c.pop.result c.in-Some.written c.reverse.ensures.items c.pop.ensures.items c.in-Some.is)
    c.written_body.new.self c.written_body.result tt (c.in_ok-spend-in-Some-variables_in.ensures (weight (list_of (objects c.args.parts.items))) (c.weight_of_list-steps.ensures ∙ ap (λ l. min (weight (list_of (objects l))) (2 ^ 64 - 1)) c.as_slice.ensures.value)) c.written_body.ensures.gives

pub returns-in_err-spend-in-Some-variables_in-clause-arguments : goal.returns-in_err-spend-in-Some-variables_in-clause-arguments
returns-in_err-spend-in-Some-variables_in-clause-arguments c =
    let r = err_from_is_err_and c.from_residual.result c.from_residual.ensures.1 in
    rw r.1 (λ u hand given. tt)

pub returns-in_ok-spend-in-Some-variables_in-clause-arguments : goal.returns-in_ok-spend-in-Some-variables_in-clause-arguments
returns-in_ok-spend-in-Some-variables_in-clause-arguments c = λ u hand given.
    let parts = list_of (objects c.args.parts.items) in
    let turned = subst (AreArguments u) (sym c.reverse.ensures.items) (reversed_all (IsArgument u) c.args.parts.items given.0) in
    let both = popped u c.reverse.new.self.items c.pop.new.self.items c.pop.result c.in-Some.written c.pop.ensures.items c.in-Some.is turned in
    let spent = c.in_ok-spend-in-Some-variables_in.ensures (weight parts) (c.weight_of_list-steps.ensures ∙ ap (λ l. min (weight (list_of (objects l))) (2 ^ 64 - 1)) c.as_slice.ensures.value) in
    c.written_body.ensures.arguments u (spent_holds u (weight parts) c.args.self.now c.spend.new.self tt spent hand) (both.0, given.1)
