use Rattle.std.proofs.Common.{pos, refl}
use Rattle.lisp_operators.proofs.Shapes.{pair_at}
use Rattle.value_functions.specs.Comparisons.{fraction_of}
use Rattle.value_functions.proofs.comparisons.fraction_of.Goals as goal

pub returns-in-List-clause-value : goal.returns-in-List-clause-value
returns-in-List-clause-value c = pair_at fraction_of (pos 0, 1) c.args.datum.now c.in-List.items c.in-List.tail (λ _ _. refl) c.in-List.is c.requires
