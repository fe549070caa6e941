use Rattle.std.proofs.Common.{◌<◌, ◌^◌, length, SFits, to_z, of_z, to_z-of_z, Ok, sym, ap, subst, ◌∙◌, rules}
use mir.Syntax.{w128}
use Rattle.lisp_object.specs.Datum.{object_of}
use Rattle.value_functions.specs.FunctionAnswers.{AnswersValue}
use Rattle.value_functions.proofs.Ends.{nth_no_list, not_negative, nth_far, nth_beyond, nth_among}
use Rattle.value_functions.proofs.lists.nth.Goals as goal

pub returns-in_default-list_parts-clause-value : goal.returns-in_default-list_parts-clause-value
returns-in_default-list_parts-clause-value c =
    nth_no_list (object_of c.args.index.now) (object_of c.args.list.now) c.in-Some.number (sym c.in-Some.is ∙ c.integer.ensures)
    c.in_default-list_parts.ensures.value

pub returns-in_default-try_from-clause-value : goal.returns-in_default-try_from-clause-value
returns-in_default-try_from-clause-value c =
    let fits : SFits w128 c.in-Some.number = search rules in
    let small : length c.in-Some-list_parts.items.now < 2 ^ 64 = search rules in
    subst (AnswersValue c.past_end.result)
    (sym (nth_far (object_of c.args.index.now) (object_of c.args.list.now) c.in-Some.number (to_z w128 (of_z w128 c.in-Some.number))
    c.in-Some-list_parts.items.now c.in-Some-list_parts.end (sym c.in-Some.is ∙ c.integer.ensures) (to_z-of_z fits)
    c.in_default-try_from.ensures c.if-number-lt0.false c.in-Some-list_parts.ensures.value.0 c.in-Some-list_parts.ensures.end small))
    c.past_end.ensures.value

pub returns-then-at-items-clause-value : goal.returns-then-at-items-clause-value
returns-then-at-items-clause-value c =
    let fits : SFits w128 c.in-Some.number = search rules in
    subst (AnswersValue c.past_end-then-at-items.result)
    (sym (nth_beyond (object_of c.args.index.now) (object_of c.args.list.now) c.in-Some.number (to_z w128 (of_z w128 c.in-Some.number)) c.in-Ok.at
    c.in-Some-list_parts.items.now c.in-Some-list_parts.end (sym c.in-Some.is ∙ c.integer.ensures) (to_z-of_z fits)
    (not_negative (to_z w128 (of_z w128 c.in-Some.number)) c.in-Ok.at c.if-number-lt0.false c.in-Ok.ensures.1) c.in-Some-list_parts.ensures.value.0 c.in-Some-list_parts.ensures.end c.if-at-items.true))
    c.past_end-then-at-items.ensures.value

pub returns-clause-value : goal.returns-clause-value
returns-clause-value c =
    let fits : SFits w128 c.in-Some.number = search rules in
    nth_among (object_of c.args.index.now) (object_of c.args.list.now) c.in-Some.number (to_z w128 (of_z w128 c.in-Some.number)) c.in-Ok.at
    c.in-Some-list_parts.items.now _ c.index-items-at.result (sym c.in-Some.is ∙ c.integer.ensures) (to_z-of_z fits)
    (not_negative (to_z w128 (of_z w128 c.in-Some.number)) c.in-Ok.at c.if-number-lt0.false c.in-Ok.ensures.1) c.in-Some-list_parts.ensures.value.0 c.if-at-items.false c.index-items-at.is
    ∙ ap (λ d. Ok (object_of d)) (sym c.in_ok-copy.ensures)
