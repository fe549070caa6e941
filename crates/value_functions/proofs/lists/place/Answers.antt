use Rattle.std.proofs.Common.{sym, ◌∙◌}
use Rattle.lisp_object.specs.Datum.{object_of}
use Rattle.value_functions.proofs.Ends.{member_found}
use Rattle.value_functions.proofs.lists.place.Goals as goal

pub returns-then-is_eql-clause-value : goal.returns-then-is_eql-clause-value
returns-then-is_eql-clause-value c =
    λ end last. sym (c.loop-at.invariant end last)
    ∙ member_found (object_of c.args.datum.now) c.args.items.now c.loop-at.at c.index-items-at.result end c.loop-at-test.true
    c.index-items-at.is (sym c.is_eql.ensures ∙ c.if-is_eql.true)
