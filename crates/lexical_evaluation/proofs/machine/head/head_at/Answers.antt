use Rattle.std.proofs.Common.{ap, sym, ◌∙◌}
use Rattle.lisp_object.specs.Object.{symbol}
use Rattle.kept_functions.specs.LocalOperators.{local_operator_of}
use Rattle.lexical_evaluation.specs.Values.{head_or, local_or, function_or_unknown, function_head}
use Rattle.lexical_evaluation.specs.Ways.{ways}
use Rattle.lexical_evaluation.proofs.machine.head.head_at.Goals as goal

pub returns-in-Some-local_operator : goal.returns-in-Some-local_operator
returns-in-Some-local_operator c = λ names n.
    let x = symbol c.args.home.now c.args.name.now in
    let function = function_head ((ways names).rules n) c.args.world.now.0 x in
    ap (λ o. head_or (local_or function (local_operator_of x)) o) (sym (c.in-None.ensures names))
    ∙ ap (λ o. local_or function o) (sym c.local_operator.ensures ∙ c.in-Some-local_operator.is)

pub returns-in-None-function_in : goal.returns-in-None-function_in
returns-in-None-function_in c = λ names n.
    let x = symbol c.args.home.now c.args.name.now in
    let function = function_head ((ways names).rules n) c.args.world.now.0 x in
    ap (λ o. head_or (local_or function (local_operator_of x)) o) (sym (c.in-None.ensures names))
    ∙ ap (λ o. local_or function o) (sym c.local_operator.ensures ∙ c.in-None-local_operator.is)
    ∙ ap function_or_unknown (sym c.in-None-function_in.ensures.value)
