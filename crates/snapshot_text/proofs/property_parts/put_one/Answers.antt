use Rattle.std.proofs.Common.{◌≡◌, rules, sym, ap, subst, ◌∙◌}
use Rattle.std.proofs.lemmas.Bool.{both_ways}
use Rattle.lisp_object.specs.Datum.{object_of, is_proper}
use Rattle.plist_state.specs.Views.{symbol_of}
use Rattle.plist_state.specs.Sound.{IsSymbol, IsValue}
use Rattle.snapshot_text.proofs.property_parts.put_one.Goals as goal
use Rattle.snapshot_text.proofs.property_parts.put_one.Goals.{then-not-is_there-via-then-not-is_there, then-not-is_there-via-else-not-is_there+then-not-is_there-2, then-not-is_there-via-else-not-is_there+else-not-is_there-2+then-not-is_value}

pub put-requires-clause-value : goal.put-requires-clause-value
put-requires-clause-value c =
    subst (λ t. IsValue t (object_of c.in_ok-value.value)) c.packages-packages.ensures (c.is_value.ensures.value c.if-not-is_value.false)

pub returns-then-not-is_there : goal.returns-then-not-is_there
returns-then-not-is_there c = λ proper_indicator proper_value i is there indicator_there may_be.
    elim c.then-not-is_there.branch [
      | then-not-is_there-via-then-not-is_there w ↦
          absurd (both_ways c.is_there.result w.if-not-is_there.true
          (c.is_there.ensures.1 (subst (λ t. IsSymbol t (symbol_of c.args.symbol.now)) (sym c.packages-packages.ensures) there)))
      | then-not-is_there-via-else-not-is_there+then-not-is_there-2 w ↦
          absurd (both_ways w.is_there-else-not-is_there.result w.if-not-is_there-2.true
          (w.is_there-else-not-is_there.ensures.1
          (subst (λ t. IsSymbol t (symbol_of c.in_ok-indicator.indicator)) (sym c.packages-packages.ensures)
          (subst (IsSymbol c.args.world.now.0.packages) (sym (c.in_ok-indicator.ensures proper_indicator i is)) indicator_there))))
      | then-not-is_there-via-else-not-is_there+else-not-is_there-2+then-not-is_value w ↦
          let same : c.in_ok-value.value ≡ c.args.value.now = search rules in
          absurd (both_ways w.is_value.result w.if-not-is_value.true
          (w.is_value.ensures.all (ap is_proper same ∙ proper_value)
          (subst (λ t. IsValue t (object_of c.in_ok-value.value)) (sym c.packages-packages.ensures)
          (subst (λ d. IsValue c.args.world.now.0.packages (object_of d)) (sym same) may_be))))
    ]
