use Rattle.evaluator.specs.Operators.{operator_of, standard_operator_of}
use Rattle.evaluator.specs.EarlierOperators.{operators_before_deciding, operators_before_places}
use Rattle.evaluator.proofs.EarlierOperators.{before_deciding_among, before_places_among}
use Rattle.evaluator.proofs.Widening.{wider_operators, standard_among}
use Rattle.evaluator.proofs.laws.more_operators_change_no_value.Goals as goal

pub returns-clause-tables : goal.returns-clause-tables
returns-clause-tables c = λ based fewer more s x d among is. wider_operators based fewer more among s x d is

pub returns-clause-standard : goal.returns-clause-standard
returns-clause-standard c = λ based names s x d is. wider_operators based (standard_operator_of names) (operator_of names) (standard_among names) s x d is

pub returns-clause-before_deciding : goal.returns-clause-before_deciding
returns-clause-before_deciding c = λ based names s x d is. wider_operators based (operators_before_deciding names) (operator_of names) (before_deciding_among names) s x d is

pub returns-clause-before_places : goal.returns-clause-before_places
returns-clause-before_places c = λ based names s x d is. wider_operators based (operators_before_places names) (operator_of names) (before_places_among names) s x d is
