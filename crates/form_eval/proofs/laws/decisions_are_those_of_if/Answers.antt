use Rattle.evaluator.proofs.Decisions.{when_by_if, unless_by_if, and_of_none, and_of_one, and_of_more, or_of_none, or_of_one, or_of_silent, or_by_cond, cond_of_none, cond_of_forms, cond_of_test}
use Rattle.form_eval.proofs.laws.decisions_are_those_of_if.Goals as goal

pub returns-clause-guarded : goal.returns-clause-guarded
returns-clause-guarded c = λ names s x forms proper. (when_by_if names s x forms proper, unless_by_if names s x forms proper)

pub returns-clause-none : goal.returns-clause-none
returns-clause-none c = λ names s. (and_of_none names s, or_of_none names s, cond_of_none names s)

pub returns-clause-one : goal.returns-clause-one
returns-clause-one c = λ names s x. (and_of_one names s x, or_of_one names s x)

pub returns-clause-and : goal.returns-clause-and
returns-clause-and c = λ names s x y others proper. and_of_more names s x y others proper

pub returns-clause-or : goal.returns-clause-or
returns-clause-or c = λ names s x y others proper. or_by_cond names s x y others proper

pub returns-clause-silent_or : goal.returns-clause-silent_or
returns-clause-silent_or c = λ names s x y others d proper is silent. or_of_silent names s x y others d proper is silent

pub returns-clause-clause : goal.returns-clause-clause
returns-clause-clause c = λ names s x y forms clauses proper ends each. cond_of_forms names s x y forms clauses proper ends each

pub returns-clause-test : goal.returns-clause-test
returns-clause-test c = λ names s x clauses ends each. cond_of_test names s x clauses ends each
