use Rattle.std.proofs.Common.{◌≡◌, nat_lt, sym, ap, ◌∙◌}
use Rattle.lisp_object.specs.Object.{pair, object_depth}
use Rattle.lisp_object.specs.Datum.{object_of}
use Rattle.plist_state.specs.Views.{symbol_of}
use Rattle.plist_state.specs.Changes.{property}
use Rattle.lisp_operators.specs.EvaluationAnswers.{or_nil}
use Rattle.lisp_operators.proofs.PropertyRows.{pushed_value}
use Rattle.lisp_operators.proofs.effects.put_pair.Goals as goal

pub put-requires-clause-value : goal.put-requires-clause-value
put-requires-clause-value c =
    let w = c.in_ok-value.value in
    let x = symbol_of c.args.symbol.now in
    let i = symbol_of c.args.indicator in
    let is : object_of w ≡ pair (object_of c.args.value.now) (or_nil (property c.args.world.now.0 x i)) =
    c.in_ok-value.ensures.value ∙ ap (λ o. pair (object_of c.args.value.now) (or_nil o)) c.get-old.ensures.value in
    pushed_value c.args.world.now.0 x i (object_of c.args.value.now) (object_of w) c.soundness.ensures.present c.requires.value.value is
    (ap (λ x. nat_lt 100 (object_depth x)) (sym is) ∙ sym c.is_too_deep.ensures ∙ c.if-is_too_deep.false)
