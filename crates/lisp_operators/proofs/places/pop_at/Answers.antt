use Rattle.std.proofs.Common.{◌≡◌, true, option_map, IfErr, Ok, sym, ap, subst, ◌∙◌}
use Rattle.lisp_object.specs.Datum.{object_of}
use Rattle.lisp_object.specs.Object.{Object}
use Rattle.plist_state.specs.State.{Worlds}
use Rattle.plist_state.specs.Views.{symbol_of}
use Rattle.plist_state.specs.Sound.{IsSymbol}
use Rattle.lisp_operators.specs.declared.evaluated.Evaluated.{Evaluated}
use Rattle.lisp_operators.specs.Evaluation.{Evaluation}
use Rattle.lisp_operators.specs.EvaluationAnswers.{IsArgument, done}
use Rattle.lisp_operators.specs.PropertyPlaces.{Pops}
use Rattle.lisp_operators.proofs.PlaceSteps.{first_popped, nothing_changed}
use Rattle.lisp_operators.proofs.places.pop_at.Goals as goal

pub pop_other-requires-clause-symbol : goal.pop_other-requires-clause-symbol
pop_other-requires-clause-symbol c =
    let w = c.args.world.now in
    let x = symbol_of c.args.symbol.now in
    let i = symbol_of c.args.indicator in
    let same : c.pop.new.self ≡ w = nothing_changed w c.pop.new.self x i c.in_ok-value.ensures.ok (ap (option_map object_of) (sym c.in-None.is) ∙ c.in_ok-value.ensures.first) in
    subst (λ (v : Worlds). IsSymbol v.0.packages x) (sym same) c.requires.symbol

pub pop_other-requires-clause-indicator : goal.pop_other-requires-clause-indicator
pop_other-requires-clause-indicator c =
    let w = c.args.world.now in
    let x = symbol_of c.args.symbol.now in
    let i = symbol_of c.args.indicator in
    let same : c.pop.new.self ≡ w = nothing_changed w c.pop.new.self x i c.in_ok-value.ensures.ok (ap (option_map object_of) (sym c.in-None.is) ∙ c.in_ok-value.ensures.first) in
    subst (λ (v : Worlds). IsSymbol v.0.packages i) (sym same) c.requires.indicator

pub pop_other-requires-clause-default : goal.pop_other-requires-clause-default
pop_other-requires-clause-default c =
    let w = c.args.world.now in
    let x = symbol_of c.args.symbol.now in
    let i = symbol_of c.args.indicator in
    let same : c.pop.new.self ≡ w = nothing_changed w c.pop.new.self x i c.in_ok-value.ensures.ok (ap (option_map object_of) (sym c.in-None.is) ∙ c.in_ok-value.ensures.first) in
    subst (λ (v : Worlds). IsArgument v.0.packages c.args.default) (sym same) c.requires.default

pub returns-in-None-clause-gives : goal.returns-in-None-clause-gives
returns-in-None-clause-gives c =
    let w = c.args.world.now in
    let x = symbol_of c.args.symbol.now in
    let i = symbol_of c.args.indicator in
    let same : c.pop.new.self ≡ w = nothing_changed w c.pop.new.self x i c.in_ok-value.ensures.ok (ap (option_map object_of) (sym c.in-None.is) ∙ c.in_ok-value.ensures.first) in
    subst (λ (v : Worlds). Pops v.0 x i (object_of c.args.default) c.pop_other.new.world.0 c.pop_other.result) same c.pop_other.ensures.gives

pub returns-in-None-clause-unchanged : goal.returns-in-None-clause-unchanged
returns-in-None-clause-unchanged c =
    let w = c.args.world.now in
    let x = symbol_of c.args.symbol.now in
    let i = symbol_of c.args.indicator in
    let same : c.pop.new.self ≡ w = nothing_changed w c.pop.new.self x i c.in_ok-value.ensures.ok (ap (option_map object_of) (sym c.in-None.is) ∙ c.in_ok-value.ensures.first) in
    subst (λ (v : Worlds). IfErr c.pop_other.result (λ _. c.pop_other.new.world ≡ v)) same c.pop_other.ensures.unchanged

pub returns-in-Some-clause-gives : goal.returns-in-Some-clause-gives
returns-in-Some-clause-gives c =
    let w = c.args.world.now in
    let x = symbol_of c.args.symbol.now in
    let i = symbol_of c.args.indicator in
    let e : Evaluated = record { value = c.in-Some.value; wrote = true } in
    let answer : Worlds → Evaluation Object = λ v. Ok (done e v.0) in
    first_popped w.0 x i (object_of c.args.default) (object_of c.in-Some.value) (ap (option_map object_of) (sym c.in-Some.is) ∙ c.in_ok-value.ensures.first)
    ∙ ap answer (sym c.in_ok-value.ensures.ok)
