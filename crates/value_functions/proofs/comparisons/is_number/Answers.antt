use Rattle.std.proofs.Common.{false, refl}
use Rattle.lisp_operators.proofs.Shapes.{pair_at}
use Rattle.value_functions.specs.Comparisons.{is_number}
use Rattle.value_functions.proofs.comparisons.is_number.Goals as goal

pub returns-in-List : goal.returns-in-List
returns-in-List c = pair_at is_number false c.args.datum.now c.in-List.items c.in-List.tail (λ _ _. refl) c.in-List.is c.requires
