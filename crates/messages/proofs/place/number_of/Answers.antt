use Rattle.std.proofs.Common.{None, refl}
use Rattle.lisp_operators.proofs.Shapes.{pair_at}
use Rattle.messages.specs.Position.{number_of_object}
use Rattle.messages.proofs.place.number_of.Goals as goal

pub returns-in-List : goal.returns-in-List
returns-in-List c = pair_at number_of_object None c.args.datum.now c.in-List.items c.in-List.tail (λ _ _. refl) c.in-List.is c.requires
