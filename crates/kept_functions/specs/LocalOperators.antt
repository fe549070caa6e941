-- The operators of PAZTURROK that bind variables, take functions, or define them.
use Rattle.std.specs.Borrow.{Bor}
use Rattle.std.specs.Prelude.{ℕ, Bool, true, false, ◌&&◌, nat_le, map, List, [], ◌∷◌, Option, Some, None, bytes_eq, if◌then◌else◌, codes}
use Rattle.std.specs.Option.{option_map_or}
use Rattle.lisp_object.specs.Object.{Object, symbol}
use Rattle.package_table.specs.Table.{Name}
use Rattle.evaluator.specs.Operators.{pazturrok}
use Rattle.kept_functions.specs.declared.local_operator.LocalOperator.{LocalOperator}
use Rattle.kept_functions.specs.declared.local_operator.LocalOperator.TheVariants.{Let, LetInTurn, Funcall, Sweeps, GivesValues, Defun, DefineReader}
use Rattle.kept_functions.specs.declared.local_operator.Sweep.TheVariants.{Mapcar, FindIf, RemoveIfNot, Reduce}

-- the operators that bind variables or define functions, by their names
abbrev pub local_operators : List (Name × LocalOperator)
local_operators =
    (codes "LET", Let) ∷
    (codes "LET*", LetInTurn) ∷
    (codes "FUNCALL", Funcall) ∷
    (codes "MAPCAR", Sweeps Mapcar) ∷
    (codes "FIND-IF", Sweeps FindIf) ∷
    (codes "REMOVE-IF-NOT", Sweeps RemoveIfNot) ∷
    (codes "REDUCE", Sweeps Reduce) ∷
    (codes "VALUES", GivesValues) ∷
    (codes "DEFUN", Defun) ∷
    (codes "DEFINE-READER", DefineReader) ∷ []

-- the one with this name
abbrev pub local_among : List (Name × LocalOperator) → Name → Option LocalOperator
local_among [] name = None
local_among (row ∷ rows) name = if bytes_eq row.0 name then Some row.1 else local_among rows name

-- the one that the head of a form names
abbrev pub local_operator_of : Object → Option LocalOperator
local_operator_of (symbol home name) = if bytes_eq home pazturrok then local_among local_operators name else None
local_operator_of _ = None

-- how many arguments each takes at least, and at most
abbrev pub fewest : LocalOperator → ℕ
fewest Let = 1
fewest LetInTurn = 1
fewest Funcall = 1
fewest (Sweeps sweep) = 2
fewest GivesValues = 0
fewest Defun = 2
fewest DefineReader = 3

-- how many arguments it takes at most; None where there is no such number
abbrev pub largest : LocalOperator → Option ℕ
largest (Sweeps Reduce) = Some 4
largest (Sweeps sweep) = Some 2
largest GivesValues = Some 1
largest _ = None

-- whether it takes so many arguments
abbrev pub takes_so_many : LocalOperator → ℕ → Bool
takes_so_many operator n = nat_le (fewest operator) n && option_map_or (λ most. nat_le n most) (largest operator) true

-- whether it is the symbol of PAZTURROK with this name
abbrev pub is_own_symbol : Name → Object → Bool
is_own_symbol name (symbol home own) = bytes_eq home pazturrok && bytes_eq own name
is_own_symbol name _ = false

-- rows of the code, where a name is a reference to its text
abbrev pub local_rows : List (Bor Name × LocalOperator) → List (Name × LocalOperator)
local_rows = map (λ row. (row.0.now, row.1))
