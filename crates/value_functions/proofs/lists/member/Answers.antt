use Rattle.std.proofs.Common.{Ok, sym, ap, ◌∙◌}
use Rattle.std.specs.List.{drop-map}
use Rattle.std.proofs.lemmas.List.{take_rest}
use Rattle.lisp_object.specs.Object.{pairs}
use Rattle.lisp_object.specs.Datum.{object_of}
use Rattle.lisp_operators.specs.EvaluationAnswers.{objects}
use Rattle.value_functions.specs.Lists.{member}
use Rattle.value_functions.specs.Parts.{end_of}
use Rattle.value_functions.proofs.Ends.{end_no_pair}
use Rattle.value_functions.proofs.lists.member.Goals as goal

pub returns-in_ok-copied_list-in-Some-place-clause-value : goal.returns-in_ok-copied_list-in-Some-place-clause-value
returns-in_ok-copied_list-in-Some-place-clause-value c =
    ap (member (object_of c.args.datum.now)) c.in-Some.ensures.value.0
    ∙ c.in-Some-place.ensures.value (end_of c.in-Some.end) (end_no_pair c.in-Some.end c.in-Some.ensures.end)
    ∙ ap (λ xs. Ok (pairs xs (end_of c.in-Some.end))) (drop-map object_of c.in-Some-place.at c.in-Some.items.now)
    ∙ ap (λ ds. Ok (pairs (objects ds) (end_of c.in-Some.end))) (sym (take_rest c.in-Some.items.now c.in-Some-place.at))
    ∙ ap Ok (sym c.in_ok-copied_list-in-Some-place.ensures.value)
