-- The operators that earlier programs had.
use Rattle.std.specs.Prelude.{if◌then◌else◌, List, Option, None, option_map}
use Rattle.std.specs.Str.{bytes_eq}
use Rattle.lisp_object.specs.Object.{symbol}
use Rattle.package_table.specs.Table.{Name, common_lisp}
use Rattle.value_functions.specs.Functions.{function_named}
use Rattle.evaluator.specs.Operators.{Operator, OperatorTable, operator_named, operator_of_function, deciding_operator_or, pazturrok}

-- those of COMMON-LISP, and of PAZTURROK these
abbrev pub operators_with : (Name → Option Operator) → List Name → OperatorTable
operators_with own names (symbol home name) =
    if bytes_eq home common_lisp then operator_named names name
    else (if bytes_eq home pazturrok then own name else None)
operators_with own names _ = None

-- before AND, COND and their like: functions of values
abbrev pub operators_before_deciding : List Name → OperatorTable
operators_before_deciding = operators_with (λ name. option_map operator_of_function (function_named name))

-- before FIND-SYMBOL, DECF and their like: those that decide, and functions of values
abbrev pub operators_before_places : List Name → OperatorTable
operators_before_places = operators_with (λ name. deciding_operator_or (option_map operator_of_function (function_named name)) name)
