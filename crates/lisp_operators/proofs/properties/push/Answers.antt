use Rattle.std.proofs.Common.{◌≡◌, ◌-◌, ◌^◌, min, Some, nat_lt, refl, sym, ap, ◌∙◌}
use Rattle.lisp_object.specs.Object.{pair, object_depth, object_size}
use Rattle.lisp_object.specs.Datum.{object_of}
use Rattle.plist_state.specs.Views.{symbol_of}
use Rattle.plist_state.specs.Changes.{property}
use Rattle.plist_state.specs.PushedLists.{pushed_list}
use Rattle.lisp_operators.specs.EvaluationAnswers.{or_nil}
use Rattle.lisp_operators.proofs.PropertyRows.{pushed_value}
use Rattle.lisp_operators.proofs.Storable.{symbol_kind}
use Rattle.lisp_operators.proofs.properties.push.Goals as goal

pub store-requires-clause-symbol : goal.store-requires-clause-symbol
store-requires-clause-symbol c =
    symbol_kind c.args.world.now.0.packages (object_of c.in_ok-first.symbol) (symbol_of c.in_ok-symbol.symbol) (sym c.in_ok-symbol.ensures.0)
    (c.in_ok-first.ensures.arguments c.args.world.now.0.packages c.requires).1.value

pub store-requires-clause-indicator : goal.store-requires-clause-indicator
store-requires-clause-indicator c =
    symbol_kind c.args.world.now.0.packages (object_of c.in_ok-first.indicator) (symbol_of c.in_ok-symbol.indicator) (sym c.in_ok-symbol.ensures.1)
    (c.in_ok-first.ensures.arguments c.args.world.now.0.packages c.requires).2.value

pub store-requires-clause-value : goal.store-requires-clause-value
store-requires-clause-value c =
    let w = c.in_ok-value.value in
    let is : object_of w ≡ pair (object_of c.in_ok-first.first) (or_nil (property c.args.world.now.0 (symbol_of c.in_ok-symbol.symbol) (symbol_of c.in_ok-symbol.indicator))) =
    c.in_ok-value.ensures.value ∙ ap (λ o. pair (object_of c.in_ok-first.first) (or_nil o)) c.get.ensures.value in
    record {
      proper = c.in_ok-value.ensures.proper;
      value = pushed_value c.args.world.now.0 (symbol_of c.in_ok-symbol.symbol) (symbol_of c.in_ok-symbol.indicator) (object_of c.in_ok-first.first) (object_of w)
          c.soundness.ensures.present (c.in_ok-first.ensures.arguments c.args.world.now.0.packages c.requires).0.value is
          (ap (λ x. nat_lt 100 (object_depth x)) (sym is) ∙ sym c.is_too_deep.ensures ∙ c.if-is_too_deep.false);
    }

pub push-requires-clause-symbol : goal.push-requires-clause-symbol
push-requires-clause-symbol c =
    symbol_kind c.args.world.now.0.packages (object_of c.in_ok-first.symbol) (symbol_of c.in_ok-symbol.symbol) (sym c.in_ok-symbol.ensures.0)
    (c.in_ok-first.ensures.arguments c.args.world.now.0.packages c.requires).1.value

pub push-requires-clause-indicator : goal.push-requires-clause-indicator
push-requires-clause-indicator c =
    symbol_kind c.args.world.now.0.packages (object_of c.in_ok-first.indicator) (symbol_of c.in_ok-symbol.indicator) (sym c.in_ok-symbol.ensures.1)
    (c.in_ok-first.ensures.arguments c.args.world.now.0.packages c.requires).2.value

pub push-requires-clause-value : goal.push-requires-clause-value
push-requires-clause-value c =
    let s = c.args.world.now.0 in
    let x = symbol_of c.in_ok-symbol.symbol in
    let i = symbol_of c.in_ok-symbol.indicator in
    let v = object_of c.in_ok-first.first in
    let is : object_of c.in_ok-value.value ≡ pushed_list v (property s x i) = c.in_ok-value.ensures.value ∙ ap (λ o. pair v (or_nil o)) c.get.ensures.value in
    pushed_value s x i v (pushed_list v (property s x i)) c.soundness.ensures.present (c.in_ok-first.ensures.arguments s.packages c.requires).0.value refl
    (ap (λ y. nat_lt 100 (object_depth y)) (sym is) ∙ sym c.is_too_deep.ensures ∙ c.if-is_too_deep.false)

pub push-requires-clause-size : goal.push-requires-clause-size
push-requires-clause-size c =
    let s = c.args.world.now.0 in
    let x = symbol_of c.in_ok-symbol.symbol in
    let i = symbol_of c.in_ok-symbol.indicator in
    let v = object_of c.in_ok-first.first in
    let is : object_of c.in_ok-value.value ≡ pushed_list v (property s x i) = c.in_ok-value.ensures.value ∙ ap (λ o. pair v (or_nil o)) c.get.ensures.value in
    ap Some (ap (λ y. min (object_size y) (2 ^ 64 - 1)) (sym is) ∙ sym (c.size-size.ensures.object c.in_ok-value.ensures.proper))
