use Rattle.std.proofs.Common.{refl}
use Rattle.lisp_operators.proofs.Shapes.{no_symbol}
use Rattle.lisp_operators.proofs.properties.symbol.Goals as goal

pub returns-in-Err : goal.returns-in-Err
returns-in-Err c = (refl, no_symbol c.args.datum c.in-Err.ensures.other c.requires)
