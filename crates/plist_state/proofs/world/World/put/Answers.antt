use Rattle.std.proofs.Common.{sym, subst}
use Rattle.plist_state.specs.Sound.{IsSymbol}
use Rattle.plist_state.proofs.world.World.put.Goals as goal

pub put_at-requires-clause-symbol : goal.put_at-requires-clause-symbol
put_at-requires-clause-symbol c = subst (IsSymbol c.args.self.now.0.packages) (sym c.borrowed.ensures) c.requires.symbol

pub put_at-requires-clause-indicator : goal.put_at-requires-clause-indicator
put_at-requires-clause-indicator c = subst (IsSymbol c.args.self.now.0.packages) (sym c.borrowed-2.ensures) c.requires.indicator
