use Rattle.lisp_operators.proofs.ArgumentLists.{after_three}
use Rattle.lisp_operators.proofs.arguments.three_and_rest.Goals as goal

pub returns-in-len3-up-clause-arguments : goal.returns-in-len3-up-clause-arguments
returns-in-len3-up-clause-arguments c = λ u all.
    after_three u c.args.values.now c.first-item.result c.second-item.result c.third-item.result c.in-len3-up.len_at_least c.first-item.is c.second-item.is c.third-item.is all
