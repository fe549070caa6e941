use Rattle.std.proofs.Common.{sym}
use Rattle.lisp_object.specs.Datum.{object_of}
use Rattle.plist_state.specs.Views.{symbol_of}
use Rattle.lisp_operators.proofs.Storable.{symbol_kind}
use Rattle.lisp_operators.proofs.effects.set.Goals as goal

pub put-requires-clause-symbol : goal.put-requires-clause-symbol
put-requires-clause-symbol c =
    let u = c.args.world.now.0.packages in
    symbol_kind u (object_of c.in_ok-symbol.symbol) (symbol_of c.in_ok-symbol-2.symbol) (sym c.in_ok-symbol-2.ensures.0) (c.in_ok-symbol.ensures.arguments u c.requires).0.value

pub put-requires-clause-indicator : goal.put-requires-clause-indicator
put-requires-clause-indicator c =
    let u = c.args.world.now.0.packages in
    symbol_kind u (object_of c.in_ok-symbol.indicator) (symbol_of c.in_ok-symbol-2.indicator) (sym c.in_ok-symbol-2.ensures.1) (c.in_ok-symbol.ensures.arguments u c.requires).1.value

pub put-requires-clause-value : goal.put-requires-clause-value
put-requires-clause-value c = (c.in_ok-symbol.ensures.arguments c.args.world.now.0.packages c.requires).2.value
