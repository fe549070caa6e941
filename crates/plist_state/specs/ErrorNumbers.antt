-- The numbers by which calls on readtables are refused.
use Rattle.std.specs.Prelude.{ℕ}
use Rattle.lisp_object.specs.declared.refusal.TheConstants.{NO_READTABLE, STANDARD_READTABLE, NOT_DISPATCHING, DIGIT_SUBCHARACTER, LIMIT, NO_MEMORY}
use Rattle.plist_state.specs.declared.error.ReadtableError.{ReadtableError}
use Rattle.plist_state.specs.declared.error.ReadtableError.TheVariants.{NoReadtable, StandardReadtable, NotDispatching, DigitSubcharacter, Limit, OutOfMemory}

-- the numbers under which readtables refuse
abbrev pub readtable_error_number : ReadtableError → ℕ
readtable_error_number NoReadtable = NO_READTABLE
readtable_error_number StandardReadtable = STANDARD_READTABLE
readtable_error_number NotDispatching = NOT_DISPATCHING
readtable_error_number DigitSubcharacter = DIGIT_SUBCHARACTER
readtable_error_number Limit = LIMIT
readtable_error_number OutOfMemory = NO_MEMORY
