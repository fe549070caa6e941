-- A form as one transaction: its symbols are interned, and then it is evaluated.
use Rattle.std.specs.Prelude.{Bool, true, false, List, Result, Ok, Err}
use Rattle.lisp_object.specs.Object.{Object}
use Rattle.package_table.specs.declared.error.PackageError.{PackageError}
use Rattle.package_table.specs.Table.{Name, Table}
use Rattle.package_table.specs.ErrorNumbers.{package_error_number}
use Rattle.package_table.specs.Symbols.{symbols}
use Rattle.package_table.specs.Changes.{after_intern, intern_changes}
use Rattle.plist_state.specs.Properties.{Symbol}
use Rattle.plist_state.specs.State.{WorldState}
use Rattle.plist_state.specs.Changes.{with_packages}
use Rattle.lisp_operators.specs.Evaluation.{Evaluation, also}
use Rattle.lisp_operators.specs.declared.error.EvaluationError.{EvaluationError}
use Rattle.lisp_operators.specs.declared.evaluated.Evaluated.{Evaluated}
use Rattle.lisp_operators.specs.EvaluationAnswers.{Answers, done}
use Rattle.lisp_operators.specs.Packages.{one_by_one}
use Rattle.evaluator.specs.Operators.{OperatorTable, operator_of}
use Rattle.evaluator.specs.Value.{value, value_over}

-- of what interning gives the packages alone, or its error
abbrev pub packages_of_interning : Result (Name × Table) PackageError → Result Table PackageError
packages_of_interning (Ok p) = Ok p.1
packages_of_interning (Err e) = Err e

-- the packages after a symbol was interned in its home, or why it may not be
abbrev pub after_symbol_interned : Table → Symbol → Result Table PackageError
after_symbol_interned packages x = packages_of_interning (after_intern packages x.0 x.1)

-- whether it changes the packages that a symbol is interned in its home
abbrev pub is_new_symbol : Table → Symbol → Bool
is_new_symbol packages x = intern_changes packages x.0 x.1

-- the packages after these symbols were interned one by one, and whether that changed them; or why one of them may not be
abbrev pub with_symbols_interned : Table → List Symbol → Result (Table × Bool) PackageError
with_symbols_interned packages xs = one_by_one after_symbol_interned is_new_symbol packages false xs

-- What a form gives whose symbols were interned with this outcome: its value, the state after it and whether it wrote; or
-- the number of the refusal, and then nothing has changed. The test in front is whether *READ-BASE* is a variable, as it is
-- for `accept`. A table says which objects are operators.
abbrev pub accepted_over : Bool → OperatorTable → WorldState → Result (Table × Bool) PackageError → Object → Evaluation Object
accepted_over based table s (Ok p) x = also p.1 (value_over based table (with_packages s p.0) x)
accepted_over based table s (Err e) x = Err (package_error_number e)

-- `accepted_over` of a form whose symbols are interned first; the test in front is whether *READ-BASE* is a variable
abbrev pub accept_over : Bool → OperatorTable → WorldState → Object → Evaluation Object
accept_over based table s x = accepted_over based table s (with_symbols_interned s.packages (symbols x)) x

-- `accepted_over` by the operators that there are, where these are the names of the program's macro functions
abbrev pub accepted_by : Bool → List Name → WorldState → Result (Table × Bool) PackageError → Object → Evaluation Object
accepted_by based names = accepted_over based (operator_of names)

-- `accept_over` by the operators that there are, where these are the names of the program's macro functions
abbrev pub accept_by : Bool → List Name → WorldState → Object → Evaluation Object
accept_by based names = accept_over based (operator_of names)

-- What a form as a transaction gives: its value, the state after it, and whether it wrote; or the number of its refusal.
abbrev pub accept : List Name → WorldState → Object → Evaluation Object
accept = accept_by true

-- a form as a transaction is answered what the definition says, from the first of two states to the second
abbrev pub Transacts : List Name → Object → WorldState → WorldState → Result Evaluated EvaluationError → Type 0
Transacts names x old new result = Answers done result new (accept names old x)

-- The value of a question, the state after it and whether its evaluation wrote; or the number of the refusal. Its symbols are
-- there as it is evaluated. That one of them is new does not count.
abbrev pub question_after_interning : List Name → WorldState → Result (Table × Bool) PackageError → Object → Evaluation Object
question_after_interning names s (Ok p) x = value names (with_packages s p.0) x
question_after_interning names s (Err e) x = Err (package_error_number e)

-- What a form as a question gives: its value, the state after it and whether its evaluation wrote; or the number of its
-- refusal.
abbrev pub question_value : List Name → WorldState → Object → Evaluation Object
question_value names s x = question_after_interning names s (with_symbols_interned s.packages (symbols x)) x

-- a form as a question is answered what the definition says, from the first of two states to the second
abbrev pub AnswersQuestion : List Name → Object → WorldState → WorldState → Result Evaluated EvaluationError → Type 0
AnswersQuestion names x old new result = Answers done result new (question_value names old x)
