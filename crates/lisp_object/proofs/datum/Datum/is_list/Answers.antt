use Rattle.std.proofs.Common.{sym}
use Rattle.lisp_object.proofs.ProperLists.{proper_list_object}
use Rattle.lisp_object.proofs.datum.Datum.is_list.Goals as goal

pub returns-in-List-clause-object : goal.returns-in-List-clause-object
returns-in-List-clause-object c =
    λ proper. sym (proper_list_object c.args.self.now c.in-List.items c.in-List.tail c.in-List.is proper)
