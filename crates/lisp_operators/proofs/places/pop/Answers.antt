use Rattle.std.proofs.Common.{sym}
use Rattle.lisp_object.specs.Datum.{object_of}
use Rattle.plist_state.specs.Views.{symbol_of}
use Rattle.lisp_operators.proofs.Storable.{symbol_kind}
use Rattle.lisp_operators.proofs.places.pop.Goals as goal

pub pop_at-requires-clause-symbol : goal.pop_at-requires-clause-symbol
pop_at-requires-clause-symbol c =
    let u = c.args.world.now.0.packages in
    symbol_kind u (object_of c.in_ok-symbol.symbol) (symbol_of c.in_ok-symbol-2.symbol) (sym c.in_ok-symbol-2.ensures.0) (c.in_ok-symbol.ensures.arguments u c.requires).0.value

pub pop_at-requires-clause-indicator : goal.pop_at-requires-clause-indicator
pop_at-requires-clause-indicator c =
    let u = c.args.world.now.0.packages in
    symbol_kind u (object_of c.in_ok-symbol.indicator) (symbol_of c.in_ok-symbol-2.indicator) (sym c.in_ok-symbol-2.ensures.1) (c.in_ok-symbol.ensures.arguments u c.requires).1.value

pub pop_at-requires-clause-default : goal.pop_at-requires-clause-default
pop_at-requires-clause-default c = (c.in_ok-symbol.ensures.arguments c.args.world.now.0.packages c.requires).2
