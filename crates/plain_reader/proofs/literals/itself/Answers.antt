use Rattle.std.proofs.Common.{IfSome, subst, sym}
use Rattle.lisp_object.specs.Datum.{object_of}
use Rattle.plain_reader.specs.Plain.{Takes, AreSymbolsThere, IfStill}
use Rattle.plain_reader.proofs.WrittenItems.{object_item, same_there, still}
use Rattle.plain_reader.proofs.literals.itself.Goals as goal

pub returns-then-is_self_evaluating-clause-takes : goal.returns-then-is_self_evaluating-clause-takes
returns-then-is_self_evaluating-clause-takes c = λ room.
    let with = c.args.with.now in
    let t = c.in-Some.taken in
    object_item with room c.args.text.now t.rest.now t.token t.object (object_of c.into_datum-datum.result) c.in-len1-up.len_at_least c.if-c-eq41.false
    (sym c.into_datum-datum.ensures.object)
    (subst (λ o. IfSome o (Takes with room c.args.text.now)) c.in-Some.is (c.in_ok-atom-in_default.ensures.takes room))

pub returns-then-is_self_evaluating-clause-known : goal.returns-then-is_self_evaluating-clause-known
returns-then-is_self_evaluating-clause-known c =
    let with = c.args.with.now in
    still (same_there with c.in-Some.taken.object (object_of c.into_datum-datum.result) (sym c.into_datum-datum.ensures.object))
    (subst (λ o. IfStill c.args.known.now c.atom.new.known (IfSome o (λ t. AreSymbolsThere with t.object))) c.in-Some.is c.in_ok-atom-in_default.ensures.known)
