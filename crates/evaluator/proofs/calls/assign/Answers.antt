use Rattle.std.proofs.Common.{◌≡◌, ◌∷◌, ◌++◌, [], None, Bool, IfErr, Result, codes, ap, refl, sym, subst, ◌∙◌, arith}
use Rattle.lisp_object.specs.Object.{pair, symbol}
use Rattle.lisp_object.specs.Datum.{object_of}
use Rattle.lisp_object.specs.declared.datum.Datum
use Rattle.package_table.specs.Table.{common_lisp}
use Rattle.plist_state.specs.State.{Worlds}
use Rattle.lisp_operators.specs.Effects.{Leaves}
use Rattle.lisp_operators.specs.EvaluationAnswers.{IsArgument}
use Rattle.lisp_operators.specs.declared.error.EvaluationError.{EvaluationError}
use Rattle.evaluator.specs.Value.{value}
use Rattle.evaluator.specs.FormsGivenBack.{GivesBack, without_form}
use Rattle.evaluator.proofs.Steps.{items_arguments}
use Rattle.evaluator.proofs.QuotedKeys.{both_arguments, third_out, third_back}
use Rattle.evaluator.proofs.calls.assign.Goals as goal

pub set_moved-requires-clause-place : goal.set_moved-requires-clause-place
set_moved-requires-clause-place c =
    let u = c.args.world.now.0.packages in
    let items = c.args.items.items in
    subst (IsArgument u) (sym (third_out items c.remove-value.new.self.items c.index.result.now c.requires.counted c.remove-value.ensures.items c.index.ensures))
    (items_arguments u (Datum.List items None) items None refl c.requires.form 1 c.index.result.now (omega (arith, c.requires.counted)))

pub set_moved-requires-clause-form : goal.set_moved-requires-clause-form
set_moved-requires-clause-form c =
    let u = c.args.world.now.0.packages in
    let items = c.args.items.items in
    subst (IsArgument u) (sym c.remove-value.ensures.value)
    (items_arguments u (Datum.List items None) items None refl c.requires.form 2 c.remove-value.result (omega (arith, c.requires.counted)))

pub returns-in-Ok-set-clause-gives : goal.returns-in-Ok-set-clause-gives
returns-in-Ok-set-clause-gives c =
    let items = c.args.items.items in
    subst (λ (r : Result Bool EvaluationError). Leaves r c.set_moved.new.world.0 (value c.args.names.now c.args.world.now.0 (object_of (Datum.List items None))))
    c.in-Ok-set.is
    (subst (λ x. Leaves c.in-Ok.set c.set_moved.new.world.0 (value c.args.names.now c.args.world.now.0 x))
    (sym (c.requires.setf ∙ ap (pair (symbol common_lisp (codes "SETF")))
    (both_arguments items c.index.result.now c.remove-value.result c.requires.counted
    (third_out items c.remove-value.new.self.items c.index.result.now c.requires.counted c.remove-value.ensures.items c.index.ensures) c.remove-value.ensures.value)))
    (c.in-Ok.ensures.gives c.args.names.now))

pub carry_out-requires-clause-form : goal.carry_out-requires-clause-form
carry_out-requires-clause-form c =
    let items = c.args.items.items in
    let xs = c.remove-value.new.self.items in
    let same : c.from_vec-items.result ≡ items =
    c.from_vec-items.ensures ∙ c.in-Ok-push.ensures.items ∙ ap (λ y. xs ++ y ∷ []) c.in-Err.ensures.same
    ∙ third_back items xs c.remove-value.result c.requires.counted c.remove-value.ensures.items c.remove-value.ensures.value in
    subst (λ (w : Worlds). IsArgument w.0.packages (Datum.List c.from_vec-items.result None)) (sym c.in-Err.ensures.unchanged)
    (subst (λ ys. IsArgument c.args.world.now.0.packages (Datum.List ys None)) (sym same) c.requires.form)

pub returns-in-Ok-push-clause-gives : goal.returns-in-Ok-push-clause-gives
returns-in-Ok-push-clause-gives c =
    let items = c.args.items.items in
    let xs = c.remove-value.new.self.items in
    let same : c.from_vec-items.result ≡ items =
    c.from_vec-items.ensures ∙ c.in-Ok-push.ensures.items ∙ ap (λ y. xs ++ y ∷ []) c.in-Err.ensures.same
    ∙ third_back items xs c.remove-value.result c.requires.counted c.remove-value.ensures.items c.remove-value.ensures.value in
    subst (λ ys. Leaves (without_form c.carry_out.result) c.carry_out.new.world.0 (value c.args.names.now c.args.world.now.0 (object_of (Datum.List ys None)))) same
    (subst (λ (w : Worlds). Leaves (without_form c.carry_out.result) c.carry_out.new.world.0 (value c.args.names.now w.0 (object_of (Datum.List c.from_vec-items.result None))))
    c.in-Err.ensures.unchanged c.carry_out.ensures.gives)

pub returns-in-Ok-push-clause-kept : goal.returns-in-Ok-push-clause-kept
returns-in-Ok-push-clause-kept c =
    let items = c.args.items.items in
    let xs = c.remove-value.new.self.items in
    let same : c.from_vec-items.result ≡ items =
    c.from_vec-items.ensures ∙ c.in-Ok-push.ensures.items ∙ ap (λ y. xs ++ y ∷ []) c.in-Err.ensures.same
    ∙ third_back items xs c.remove-value.result c.requires.counted c.remove-value.ensures.items c.remove-value.ensures.value in
    subst (λ ys. IfErr c.carry_out.result (GivesBack (Datum.List ys None))) same c.carry_out.ensures.kept
