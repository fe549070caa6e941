use Rattle.std.proofs.Common.{◌≡◌, ◌-◌, length, take, drop, sym, subst, arith, ◌∙◌, slice_index_or}
use Rattle.std.proofs.lemmas.Option.{same_Some}
use Rattle.std.proofs.lemmas.Result.{IfOk-weaker}
use Rattle.lisp_object.specs.Datum.{object_of}
use Rattle.refused_part.specs.PartPlaces.{HasPart, with_part}
use Rattle.refused_part.proofs.Filled.{first_step, item_proper, rest_shorter, with_first}
use Rattle.refused_part.proofs.filling.+filled.Goals as goal

pub filled-requires : goal.filled-requires
filled-requires t c =
    let place = c.args.place.now in
    let there = c.requires.there in
    let step = first_step place c.args.whole.now there.0 c.in-len1-up.len_at_least there.1 in
    let same : step.0 ≡ c.in-Some.item.now = same_Some step.0 c.in-Some.item.now (sym step.1 ∙ sym c.in-Some.ensures) in
    let has = subst (λ d. HasPart (take (length place - 1) (drop 1 place)) d there.0) same step.2 in
    let proper = item_proper c.args.whole.now (slice_index_or place 0 0) c.in-Some.item.now c.requires.whole (sym c.in-Some.ensures) in
    (omega (arith, rest_shorter place c.in-len1-up.len_at_least, c.decreases), ((there.0, has), (proper, c.requires.other)))

pub returns-in_ok-item-in-Some-clause-object : goal.returns-in_ok-item-in-Some-clause-object
returns-in_ok-item-in-Some-clause-object t c =
    let place = c.args.place.now in
    IfOk-weaker c.with_item.result _ _
    (λ d object. object (with_part (take (length place - 1) (drop 1 place)) (object_of c.args.other.now)) c.in-Some.item.now (sym c.in-Some.ensures) c.in_ok-item-in-Some.ensures.object
    ∙ sym (with_first place c.in-len1-up.len_at_least (object_of c.args.other.now) (object_of c.args.whole.now)))
    c.with_item.ensures.object
