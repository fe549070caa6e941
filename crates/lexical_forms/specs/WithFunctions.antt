-- A form as one transaction, where functions of the world are known: it is carried out in the language without them; and where this asks for
-- them, once more from the beginning.
use Rattle.std.specs.Prelude.{Bool, List, Result, Ok, Err}
use Rattle.lisp_object.specs.Object.{Object}
use Rattle.package_table.specs.declared.error.PackageError.{PackageError}
use Rattle.package_table.specs.Table.{Name, Table}
use Rattle.package_table.specs.ErrorNumbers.{package_error_number}
use Rattle.package_table.specs.Symbols.{symbols}
use Rattle.plist_state.specs.State.{WorldState}
use Rattle.plist_state.specs.Changes.{with_packages}
use Rattle.lisp_operators.specs.Evaluation.{Evaluation, also}
use Rattle.lexical_evaluation.specs.Calls.{lexical_value, or_with_functions}
use Rattle.form_eval.specs.Acceptance.{with_symbols_interned, accept, question_value}

-- What a form gives in the language with functions whose symbols were interned with this outcome: its value, the state after it and
-- whether it wrote; or the number of the refusal.
abbrev pub accepted_lexically : List Name → WorldState → Result (Table × Bool) PackageError → Object → Evaluation Object
accepted_lexically names s (Ok p) x = also p.1 (lexical_value names (with_packages s p.0) x)
accepted_lexically names s (Err e) x = Err (package_error_number e)

-- what a form as a transaction gives in the language with functions
abbrev pub accept_lexically : List Name → WorldState → Object → Evaluation Object
accept_lexically names s x = accepted_lexically names s (with_symbols_interned s.packages (symbols x)) x

-- A FORM AS A TRANSACTION: in the language without functions; where this asks for them, in the one with them, from the beginning.
abbrev pub accept_with_functions : List Name → WorldState → Object → Evaluation Object
accept_with_functions names s x = or_with_functions (accept names s x) (accept_lexically names s x)

-- What a question gives in the language with functions whose symbols were interned with this outcome. That one of them is new does
-- not count.
abbrev pub asked_lexically : List Name → WorldState → Result (Table × Bool) PackageError → Object → Evaluation Object
asked_lexically names s (Ok p) x = lexical_value names (with_packages s p.0) x
asked_lexically names s (Err e) x = Err (package_error_number e)

-- what a form as a question gives in the language with functions
abbrev pub question_lexically : List Name → WorldState → Object → Evaluation Object
question_lexically names s x = asked_lexically names s (with_symbols_interned s.packages (symbols x)) x

-- a form as a question, first in the one language and then in the other
abbrev pub question_with_functions : List Name → WorldState → Object → Evaluation Object
question_with_functions names s x = or_with_functions (question_value names s x) (question_lexically names s x)
