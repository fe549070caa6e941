use Rattle.token_meaning.proofs.Forms.{rational_found}
use Rattle.token_meaning.proofs.Spelled.{rational_of_digits, rational_of_ratio}
use Rattle.token_meaning.proofs.laws.rationals_are_concatenations.Goals as goal

pub returns-clause-integer : goal.returns-clause-integer
returns-clause-integer c = rational_of_digits

pub returns-clause-ratio : goal.returns-clause-ratio
returns-clause-ratio c = rational_of_ratio

pub returns-clause-found : goal.returns-clause-found
returns-clause-found c = rational_found
