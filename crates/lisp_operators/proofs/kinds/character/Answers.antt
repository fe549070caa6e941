use Rattle.std.proofs.Common.{None, refl}
use Rattle.lisp_operators.specs.ArgumentKinds.{a_character}
use Rattle.lisp_operators.proofs.Shapes.{pair_at}
use Rattle.lisp_operators.proofs.kinds.character.Goals as goal

pub returns-in-List : goal.returns-in-List
returns-in-List c = (refl, pair_at a_character None c.args.datum.now c.in-List.items c.in-List.tail (λ _ _. refl) c.in-List.is c.requires)
