use Rattle.std.proofs.Common.{sym}
use Rattle.lisp_object.specs.Datum.{object_of}
use Rattle.plist_state.specs.Views.{symbol_of}
use Rattle.lisp_operators.proofs.Storable.{symbol_kind}
use Rattle.lisp_operators.proofs.effects.push.Goals as goal

pub put_before-requires-clause-symbol : goal.put_before-requires-clause-symbol
put_before-requires-clause-symbol c =
    let u = c.args.world.now.0.packages in
    symbol_kind u (object_of c.in_ok-value.symbol) (symbol_of c.in_ok-symbol.symbol) (sym c.in_ok-symbol.ensures.0) (c.in_ok-value.ensures.arguments u c.requires).1.value

pub put_before-requires-clause-indicator : goal.put_before-requires-clause-indicator
put_before-requires-clause-indicator c =
    let u = c.args.world.now.0.packages in
    symbol_kind u (object_of c.in_ok-value.indicator) (symbol_of c.in_ok-symbol.indicator) (sym c.in_ok-symbol.ensures.1) (c.in_ok-value.ensures.arguments u c.requires).2.value

pub put_pair-requires-clause-symbol : goal.put_pair-requires-clause-symbol
put_pair-requires-clause-symbol c =
    let u = c.args.world.now.0.packages in
    symbol_kind u (object_of c.in_ok-value.symbol) (symbol_of c.in_ok-symbol.symbol) (sym c.in_ok-symbol.ensures.0) (c.in_ok-value.ensures.arguments u c.requires).1.value

pub put_pair-requires-clause-indicator : goal.put_pair-requires-clause-indicator
put_pair-requires-clause-indicator c =
    let u = c.args.world.now.0.packages in
    symbol_kind u (object_of c.in_ok-value.indicator) (symbol_of c.in_ok-symbol.indicator) (sym c.in_ok-symbol.ensures.1) (c.in_ok-value.ensures.arguments u c.requires).2.value
