use Rattle.std.proofs.Common.{inl, inr}
use Rattle.token_meaning.proofs.Forms.{found}
use Rattle.token_meaning.proofs.Spelled.{digits_given, decimal_given, ratio_given, float_given, ratio_no_integer, ratio_no_float}
use Rattle.token_meaning.proofs.laws.numbers_are_concatenations.Goals as goal

pub returns-clause-integer : goal.returns-clause-integer
returns-clause-integer c = λ base text negative size top h.
    elim h [ inl digits ↦ digits_given base text negative size top digits | inr decimal ↦ decimal_given base text negative size top decimal ]

pub returns-clause-ratio : goal.returns-clause-ratio
returns-clause-ratio c = ratio_given

pub returns-clause-float : goal.returns-clause-float
returns-clause-float c = float_given

pub returns-clause-found : goal.returns-clause-found
returns-clause-found c = found

pub returns-clause-ratio_is_no_integer : goal.returns-clause-ratio_is_no_integer
returns-clause-ratio_is_no_integer c = ratio_no_integer

pub returns-clause-ratio_is_no_float : goal.returns-clause-ratio_is_no_float
returns-clause-ratio_is_no_float c = ratio_no_float
