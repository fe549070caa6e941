use Rattle.std.proofs.Common.{sym}
use Rattle.lisp_object.specs.Datum.{object_of}
use Rattle.plist_state.specs.Views.{symbol_of}
use Rattle.lisp_operators.proofs.Storable.{symbol_kind}
use Rattle.lisp_operators.proofs.properties.set.Goals as goal

pub store-requires-clause-symbol : goal.store-requires-clause-symbol
store-requires-clause-symbol c =
    let u = c.args.world.now.0.packages in
    symbol_kind u (object_of c.in_ok-symbol.symbol) (symbol_of c.in_ok-symbol-2.symbol) (sym c.in_ok-symbol-2.ensures.0) (c.in_ok-symbol.ensures.arguments u c.requires).0.value

pub store-requires-clause-indicator : goal.store-requires-clause-indicator
store-requires-clause-indicator c =
    let u = c.args.world.now.0.packages in
    symbol_kind u (object_of c.in_ok-symbol.indicator) (symbol_of c.in_ok-symbol-2.indicator) (sym c.in_ok-symbol-2.ensures.1) (c.in_ok-symbol.ensures.arguments u c.requires).1.value

pub store-requires-clause-value : goal.store-requires-clause-value
store-requires-clause-value c = (c.in_ok-symbol.ensures.arguments c.args.world.now.0.packages c.requires).2
