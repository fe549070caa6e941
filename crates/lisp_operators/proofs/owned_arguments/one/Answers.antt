use Rattle.lisp_operators.proofs.owned_arguments.one.Goals as goal

pub returns-clause-arguments : goal.returns-clause-arguments
returns-clause-arguments c = λ u all. (c.in_ok-head.ensures.arguments u all).0
