use Rattle.std.proofs.Common.{◌≡◌, Some, None, refl, rules}
use Rattle.std.proofs.lemmas.Bool.{both_ways}
use Rattle.lisp_object.specs.declared.datum.Datum
use Rattle.snapshot_text.proofs.ReadParts.{items_of_nil, items_of_list, no_end, no_list}
use Rattle.snapshot_text.proofs.parts.items_in.Goals as goal

pub returns-then-is_nil-clause-read : goal.returns-then-is_nil-clause-read
returns-then-is_nil-clause-read c = λ proper xs e. (items_of_nil c.args.datum.now xs (c.is_nil.ensures.0 c.if-is_nil.true) e, refl)

pub returns-in-None-clause-read : goal.returns-in-None-clause-read
returns-in-None-clause-read c = λ proper xs e.
    let is : c.args.datum.now ≡ Datum.List c.as_slice.result.now None = search rules in
    items_of_list c.args.datum.now c.as_slice.result.now xs is proper e

pub returns-in-Some-clause-read : goal.returns-in-Some-clause-read
returns-in-Some-clause-read c = λ proper xs e.
    let is : c.args.datum.now ≡ Datum.List c.in-List.items (Some c.in-Some.field-0) = search rules in
    no_end c.args.datum.now c.in-List.items c.in-Some.field-0 xs is proper e

pub returns-in_default-clause-read : goal.returns-in_default-clause-read
returns-in_default-clause-read c = λ proper xs e.
    no_list c.args.datum.now xs c.in_default.not-List (λ is. both_ways c.is_nil.result c.if-is_nil.false (c.is_nil.ensures.1 is)) proper e
