use Rattle.std.proofs.Common.{IfErr, ap, sym, subst, ◌∙◌}
use Rattle.lisp_object.specs.Datum.{object_of}
use Rattle.lisp_operators.specs.Effects.{Leaves, effect}
use Rattle.lisp_operators.specs.EvaluationAnswers.{IsArgument}
use Rattle.evaluator.specs.Value.{value}
use Rattle.evaluator.specs.FormsGivenBack.{GivesBack, without_form}
use Rattle.evaluator.proofs.calls.apply.Goals as goal

pub returns-then-is_literal-clause-gives : goal.returns-then-is_literal-clause-gives
returns-then-is_literal-clause-gives c = ap effect ((c.is_literal.ensures c.if-is_literal.true).1 c.args.names.now c.args.world.now.0)

pub assign-requires-clause-setf : goal.assign-requires-clause-setf
assign-requires-clause-setf c = ap object_of (sym c.in-Ok.ensures.form) ∙ c.in-Ok.ensures.object

pub assign-requires-clause-form : goal.assign-requires-clause-form
assign-requires-clause-form c = subst (IsArgument c.args.world.now.0.packages) c.in-Ok.ensures.form c.requires.form

pub returns-in-Ok-clause-gives : goal.returns-in-Ok-clause-gives
returns-in-Ok-clause-gives c =
    subst (λ d. Leaves (without_form c.assign.result) c.assign.new.world.0 (value c.args.names.now c.args.world.now.0 (object_of d))) (sym c.in-Ok.ensures.form) c.assign.ensures.gives

pub returns-in-Ok-clause-kept : goal.returns-in-Ok-clause-kept
returns-in-Ok-clause-kept c = subst (λ d. IfErr c.assign.result (GivesBack d)) (sym c.in-Ok.ensures.form) c.assign.ensures.kept

pub returns-in-Err-clause-gives : goal.returns-in-Err-clause-gives
returns-in-Err-clause-gives c =
    subst (λ d. Leaves (without_form c.carry_out.result) c.carry_out.new.world.0 (value c.args.names.now c.args.world.now.0 (object_of d))) c.in-Err.ensures.same c.carry_out.ensures.gives

pub returns-in-Err-clause-kept : goal.returns-in-Err-clause-kept
returns-in-Err-clause-kept c = subst (λ d. IfErr c.carry_out.result (GivesBack d)) c.in-Err.ensures.same c.carry_out.ensures.kept
