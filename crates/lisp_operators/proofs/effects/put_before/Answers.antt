use Rattle.std.proofs.Common.{◌≡◌, true, Ok, nat_lt, refl, sym, ap, ◌∙◌, arith}
use Rattle.std.proofs.lemmas.Bool.Decides.{nat_tests}
use Rattle.lisp_object.specs.Object.{object_depth, object_size}
use Rattle.lisp_object.specs.Datum.{object_of}
use Rattle.plist_state.specs.Views.{symbol_of}
use Rattle.plist_state.specs.Changes.{property}
use Rattle.plist_state.specs.State.{Worlds}
use Rattle.plist_state.specs.PushedLists.{pushed_list, with_pushed}
use Rattle.lisp_operators.specs.Evaluation.{writes}
use Rattle.lisp_operators.specs.Effects.{effect}
use Rattle.lisp_operators.proofs.PropertyRows.{pushed_value}
use Rattle.lisp_operators.proofs.Pushes.{pushed_depth, pushed_size, too_deep, too_large, built_up}
use Rattle.lisp_operators.proofs.effects.put_before.Goals as goal

pub push-requires-clause-value : goal.push-requires-clause-value
push-requires-clause-value c =
    let s = c.args.world.now.0 in
    let x = symbol_of c.args.symbol.now in
    let i = symbol_of c.args.indicator.now in
    let v = object_of c.args.value in
    let deep : c.is_too_deep_within.result ≡ nat_lt 100 (object_depth (pushed_list v (property s x i))) =
    pushed_depth s x i v c.args.list _ c.soundness.ensures.present c.requires.list c.is_too_deep_within.ensures.before in
    pushed_value s x i v (pushed_list v (property s x i)) c.soundness.ensures.present c.requires.value.value refl (sym deep ∙ c.if-is_too_deep_within.false)

pub push-requires-clause-size : goal.push-requires-clause-size
push-requires-clause-size c =
    c.size_before-size.ensures (property c.args.world.now.0 (symbol_of c.args.symbol.now) (symbol_of c.args.indicator.now)) c.requires.list

pub returns-then-is_too_deep_within-clause-gives : goal.returns-then-is_too_deep_within-clause-gives
returns-then-is_too_deep_within-clause-gives c =
    let s = c.args.world.now.0 in
    let x = symbol_of c.args.symbol.now in
    let i = symbol_of c.args.indicator.now in
    let v = object_of c.args.value in
    let deep : c.is_too_deep_within.result ≡ nat_lt 100 (object_depth (pushed_list v (property s x i))) =
    pushed_depth s x i v c.args.list _ c.soundness.ensures.present c.requires.list c.is_too_deep_within.ensures.before in
    too_deep (pushed_list v (property s x i)) (writes (pushed_list v (property s x i)) (with_pushed s x i v)) (sym deep ∙ c.if-is_too_deep_within.true)

pub returns-then-size-gt-LARGEST_SIZE-clause-gives : goal.returns-then-size-gt-LARGEST_SIZE-clause-gives
returns-then-size-gt-LARGEST_SIZE-clause-gives c =
    let s = c.args.world.now.0 in
    let x = symbol_of c.args.symbol.now in
    let i = symbol_of c.args.indicator.now in
    let v = object_of c.args.value in
    let deep : c.is_too_deep_within.result ≡ nat_lt 100 (object_depth (pushed_list v (property s x i))) =
    pushed_depth s x i v c.args.list _ c.soundness.ensures.present c.requires.list c.is_too_deep_within.ensures.before in
    let large : nat_lt 1000000 (object_size (pushed_list v (property s x i))) ≡ nat_lt 1000000 c.size_before-size.result =
    pushed_size v (property s x i) c.size_before-size.result (c.size_before-size.ensures (property s x i) c.requires.list) in
    too_large (pushed_list v (property s x i)) (writes (pushed_list v (property s x i)) (with_pushed s x i v)) (sym deep ∙ c.if-is_too_deep_within.false)
    (large ∙ grind (arith, nat_tests, c.if-size-gt-LARGEST_SIZE.true))

pub returns-clause-gives : goal.returns-clause-gives
returns-clause-gives c =
    let s = c.args.world.now.0 in
    let x = symbol_of c.args.symbol.now in
    let i = symbol_of c.args.indicator.now in
    let v = object_of c.args.value in
    let deep : c.is_too_deep_within.result ≡ nat_lt 100 (object_depth (pushed_list v (property s x i))) =
    pushed_depth s x i v c.args.list _ c.soundness.ensures.present c.requires.list c.is_too_deep_within.ensures.before in
    let large : nat_lt 1000000 (object_size (pushed_list v (property s x i))) ≡ nat_lt 1000000 c.size_before-size.result =
    pushed_size v (property s x i) c.size_before-size.result (c.size_before-size.ensures (property s x i) c.requires.list) in
    ap effect (built_up (pushed_list v (property s x i)) (writes (pushed_list v (property s x i)) (with_pushed s x i v)) (sym deep ∙ c.if-is_too_deep_within.false)
    (large ∙ grind (arith, nat_tests, c.if-size-gt-LARGEST_SIZE.false)))
    ∙ ap (λ (w : Worlds). Ok (w.0, true)) (sym c.in_ok-push.ensures.ok)
