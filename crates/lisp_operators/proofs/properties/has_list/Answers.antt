use Rattle.std.proofs.Common.{sym, ap, ◌∙◌}
use Rattle.lisp_object.specs.Datum.{object_of}
use Rattle.plist_state.specs.PushedLists.{holds_pair}
use Rattle.lisp_operators.proofs.Pushes.{pair_held}
use Rattle.lisp_operators.proofs.properties.has_list.Goals as goal

pub returns-in-Some : goal.returns-in-Some
returns-in-Some c = c.is_pair.ensures ∙ sym (pair_held (object_of c.in-Some.value.now)) ∙ ap holds_pair c.in-Some.ensures.value

pub returns-in-None : goal.returns-in-None
returns-in-None c = ap holds_pair c.in-None.ensures.value
