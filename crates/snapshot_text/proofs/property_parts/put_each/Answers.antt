use Rattle.std.proofs.Common.{◌≡◌, ◌-◌, rules, sym, subst, arith, length, take, drop}
use Rattle.lisp_object.specs.Datum.{object_of}
use Rattle.plist_state.specs.State.{WorldState}
use Rattle.plist_state.specs.Changes.{with_property}
use Rattle.plist_state.specs.Views.{symbol_of}
use Rattle.plist_state.specs.Sound.{IsSymbol, IsValue}
use Rattle.snapshot_text.specs.BuiltWorlds.{with_each}
use Rattle.snapshot_lines.specs.declared.error.BuildError.TheVariants.{OutOfMemory}
use Rattle.snapshot_text.proofs.PropertyParts.{IsLeft, all_left, none_left, not_one, next_left}
use Rattle.snapshot_text.proofs.property_parts.put_each.Goals as goal

pub loop-rest-init : goal.loop-rest-init
loop-rest-init c = λ proper ps e there plist. all_left c.args.world.now.0 (symbol_of c.args.symbol.now) ps c.args.properties.now proper e plist

pub loop-rest-preserved : goal.loop-rest-preserved
loop-rest-preserved c = λ proper ps e there plist.
    let t = c.args.world.now.0.packages in
    let x = symbol_of c.args.symbol.now in
    let n = next_left t x (with_each c.args.world.now.0 x ps) c.loop-rest.world.0 c.loop-rest.rest.now c.indicator-item.result c.value-item.result
    (c.loop-rest.invariant proper ps e there plist) c.in-len2-up.len_at_least c.indicator-item.is c.value-item.is in
    let put : c.put_one.new.world.0 ≡ with_property c.loop-rest.world.0 x n.indicator (object_of c.value-item.result) =
    c.in_ok-put_one.ensures n.indicator_proper n.value_proper n.indicator n.named (subst (λ t. IsSymbol t x) (sym n.packages) there)
    (subst (λ t. IsSymbol t n.indicator) (sym n.packages) n.there) (subst (λ t. IsValue t (object_of c.value-item.result)) (sym n.packages) n.value) in
    subst (λ (w : WorldState). IsLeft t x (with_each c.args.world.now.0 x ps) w (take (length c.loop-rest.rest.now - 2) (drop 2 c.loop-rest.rest.now))) (sym put) n.then

pub returns-in_err-put_one : goal.returns-in_err-put_one
returns-in_err-put_one c = λ proper ps e there plist.
    let t = c.args.world.now.0.packages in
    let x = symbol_of c.args.symbol.now in
    let n = next_left t x (with_each c.args.world.now.0 x ps) c.loop-rest.world.0 c.loop-rest.rest.now c.indicator-item.result c.value-item.result
    (c.loop-rest.invariant proper ps e there plist) c.in-len2-up.len_at_least c.indicator-item.is c.value-item.is in
    let out : c.in_err-put_one.field-0.0 ≡ OutOfMemory =
    c.in_err-put_one.ensures n.indicator_proper n.value_proper n.indicator n.named (subst (λ t. IsSymbol t x) (sym n.packages) there)
    (subst (λ t. IsSymbol t n.indicator) (sym n.packages) n.there) (subst (λ t. IsValue t (object_of c.value-item.result)) (sym n.packages) n.value) in
    search rules

pub returns-then-not-is_empty : goal.returns-then-not-is_empty
returns-then-not-is_empty c = λ proper ps e there plist.
    let x = symbol_of c.args.symbol.now in
    absurd (not_one c.args.world.now.0.packages x (with_each c.args.world.now.0 x ps) c.loop-rest.world.0 c.loop-rest.rest.now
    (c.loop-rest.invariant proper ps e there plist) (grind (arith, c.is_empty.ensures)))

pub returns : goal.returns
returns c = λ proper ps e there plist.
    let x = symbol_of c.args.symbol.now in
    none_left c.args.world.now.0.packages x (with_each c.args.world.now.0 x ps) c.loop-rest.world.0 c.loop-rest.rest.now
    (c.loop-rest.invariant proper ps e there plist) (grind (arith, c.is_empty.ensures))
