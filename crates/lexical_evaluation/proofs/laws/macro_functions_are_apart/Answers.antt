use Rattle.std.proofs.Common.{sym, ◌∙◌}
use Rattle.lexical_evaluation.proofs.Outcomes.{program_way, program_answer, own_way, own_answer}
use Rattle.lexical_evaluation.proofs.laws.macro_functions_are_apart.Goals as goal

pub returns-clause-old : goal.returns-clause-old
returns-clause-old c = λ program s none apart name is. (program_way program s name is, λ call. program_answer program s name call is)

pub returns-clause-own : goal.returns-clause-own
returns-clause-own c = λ one other s name is.
    (own_way one s name is ∙ sym (own_way other s name is), λ call. own_answer one s name call is ∙ sym (own_answer other s name call is))
