use Rattle.std.proofs.Common.{Ok, sym, ap, ◌∙◌}
use Rattle.lisp_object.specs.Datum.{object_of}
use Rattle.value_functions.specs.Lists.{member}
use Rattle.value_functions.specs.Parts.{end_of}
use Rattle.value_functions.proofs.Ends.{end_no_pair, adjoin_found}
use Rattle.value_functions.proofs.lists.adjoin.Goals as goal

pub returns-then-is_some-clause-value : goal.returns-then-is_some-clause-value
returns-then-is_some-clause-value c =
    adjoin_found (object_of c.args.datum.now) (object_of c.args.list.now) (end_of c.in-Some.end) c.in-Some.items.now c.place.result
    (ap (member (object_of c.args.datum.now)) c.in-Some.ensures.value.0
    ∙ c.place.ensures.value (end_of c.in-Some.end) (end_no_pair c.in-Some.end c.in-Some.ensures.end))
    c.place.ensures.within (sym c.is_some.ensures ∙ c.if-is_some.true)
    ∙ ap (λ d. Ok (object_of d)) (sym c.in_ok-copy.ensures)
