use Rattle.std.proofs.Common.{Some, None, [], map, refl, sym, ◌∙◌}
use Rattle.lisp_object.specs.Datum.{object_of}
use Rattle.lisp_operators.specs.ArgumentKinds.{a_name}
use Rattle.lisp_operators.proofs.MemberLists.{members_or_each}
use Rattle.lisp_operators.proofs.MemberSteps.{each_found}
use Rattle.lisp_operators.proofs.lists.names.Goals as goal

pub returns-in-Ok-clause-value : goal.returns-in-Ok-clause-value
returns-in-Ok-clause-value c =
    let ms = c.in-Some.members.now in
    sym (members_or_each a_name (object_of c.args.datum.now) (Some (map object_of ms)) c.in-Some.ensures.value ∙ each_found a_name [] ms c.in-Ok.ensures.each)

pub returns-in-Err-clause-value : goal.returns-in-Err-clause-value
returns-in-Err-clause-value c =
    (c.in-Err.ensures.none.0, c.in-Err.ensures.none.1 ∙ sym (members_or_each a_name (object_of c.args.datum.now) (Some (map object_of c.in-Some.members.now)) c.in-Some.ensures.value))

pub returns-in-None-clause-value : goal.returns-in-None-clause-value
returns-in-None-clause-value c = (refl, sym (members_or_each a_name (object_of c.args.datum.now) None c.in-None.ensures.value))
