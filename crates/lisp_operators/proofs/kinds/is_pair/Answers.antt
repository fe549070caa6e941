use Rattle.std.proofs.Common.{true, refl}
use Rattle.lisp_operators.specs.ArgumentKinds.{is_pair}
use Rattle.lisp_operators.proofs.Shapes.{pair_at}
use Rattle.lisp_operators.proofs.kinds.is_pair.Goals as goal

pub returns-in-List : goal.returns-in-List
returns-in-List c = pair_at is_pair true c.args.datum.now c.in-List.items c.in-List.tail (λ _ _. refl) c.in-List.is c.requires
