use Rattle.evaluator.specs.Operators.{operator_of, standard_operator_of}
use Rattle.evaluator.specs.EarlierOperators.{operators_before_deciding, operators_before_places}
use Rattle.form_eval.proofs.Accepted.{accepted_with_values}
use Rattle.form_eval.proofs.laws.more_operators_change_no_form.Goals as goal

pub returns-clause-tables : goal.returns-clause-tables
returns-clause-tables c = λ based fewer more s x d among is.
    accepted_with_values based fewer more (λ r y e had. c.more_operators_change_no_value.ensures.tables based fewer more r y e among had) s x d is

pub returns-clause-standard : goal.returns-clause-standard
returns-clause-standard c = λ based names s x d is.
    accepted_with_values based (standard_operator_of names) (operator_of names) (c.more_operators_change_no_value.ensures.standard based names) s x d is

pub returns-clause-before_deciding : goal.returns-clause-before_deciding
returns-clause-before_deciding c = λ based names s x d is.
    accepted_with_values based (operators_before_deciding names) (operator_of names) (c.more_operators_change_no_value.ensures.before_deciding based names) s x d is

pub returns-clause-before_places : goal.returns-clause-before_places
returns-clause-before_places c = λ based names s x d is.
    accepted_with_values based (operators_before_places names) (operator_of names) (c.more_operators_change_no_value.ensures.before_places based names) s x d is
