use Rattle.std.proofs.Common.{false, refl}
use Rattle.lisp_object.specs.Datum.{object_of}
use Rattle.lisp_operators.proofs.Shapes.{pair_at}
use Rattle.value_functions.specs.Equality.{is_eql}
use Rattle.value_functions.proofs.equals.is_eql.Goals as goal

pub returns-in-List : goal.returns-in-List
returns-in-List c =
    pair_at (λ x. is_eql x (object_of c.args.b.now)) false c.args.a.now c.in-List.items c.in-List.tail (λ _ _. refl) c.in-List.is c.requires.first
