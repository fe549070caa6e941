use Rattle.lisp_operators.proofs.ArgumentLists.{after_two}
use Rattle.lisp_operators.proofs.arguments.two_and_rest.Goals as goal

pub returns-in-len2-up-clause-arguments : goal.returns-in-len2-up-clause-arguments
returns-in-len2-up-clause-arguments c = λ u all.
    after_two u c.args.values.now c.first-item.result c.second-item.result c.in-len2-up.len_at_least c.first-item.is c.second-item.is all
