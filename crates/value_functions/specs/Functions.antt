-- The functions: their names, how many arguments each takes, and what each gives of the values of its arguments.
use Rattle.std.specs.Prelude.{ℕ, if◌then◌else◌, nat_lt, List, [], ◌∷◌, map, bytes_eq, codes, Option, Some, None, Err}
use Rattle.std.specs.Borrow.{Bor}
use Rattle.lisp_object.specs.Object.{Object, list_of, object_depth, object_size}
use Rattle.lisp_object.specs.declared.refusal.TheConstants.{VALUE_TOO_DEEP, LIMIT}
use Rattle.package_table.specs.Table.{Name}
use Rattle.value_functions.specs.declared.functions.ValueFunction.{ValueFunction}
use Rattle.value_functions.specs.declared.functions.ValueFunction.TheVariants.{Equality, Predicate, Comparison, Extreme, Arithmetic, Division, OnTexts, OnLists, OnSequences, Building}
use Rattle.value_functions.specs.declared.functions.Equality.TheVariants.{Eql, Equal}
use Rattle.value_functions.specs.declared.functions.Predicate.TheVariants.{Not, Consp, Symbolp, Stringp, Integerp, Characterp, Vectorp}
use Rattle.value_functions.specs.declared.functions.Comparison.TheVariants.{Same, Different, Less, AtMost, Greater, AtLeast}
use Rattle.value_functions.specs.declared.functions.Extreme.TheVariants.{Min, Max}
use Rattle.value_functions.specs.declared.functions.Arithmetic.TheVariants.{Plus, Minus, Times}
use Rattle.value_functions.specs.declared.functions.Division.TheVariants.{Floor, Mod}
use Rattle.value_functions.specs.declared.functions.OnTexts.TheVariants.{SameText, TextLess, SymbolName}
use Rattle.value_functions.specs.declared.functions.OnLists.TheVariants.{Cons, Car, Cdr, Nth, Member, Assoc, Adjoin}
use Rattle.value_functions.specs.declared.functions.OnSequences.TheVariants.{Length, Reverse, Remove, Svref}
use Rattle.value_functions.specs.declared.functions.Building.TheVariants.{Append, Vector}
use Rattle.value_functions.specs.FunctionAnswers.{FunctionValue}
use Rattle.value_functions.specs.Equality.{equality}
use Rattle.value_functions.specs.Predicates.{predicate}
use Rattle.value_functions.specs.Comparisons.{comparison}
use Rattle.value_functions.specs.Comparisons.{extreme}
use Rattle.value_functions.specs.Arithmetic.{arithmetic}
use Rattle.value_functions.specs.Arithmetic.{division}
use Rattle.value_functions.specs.TextValues.{on_texts}
use Rattle.value_functions.specs.Lists.{on_lists}
use Rattle.value_functions.specs.Sequences.{on_sequences}
use Rattle.value_functions.specs.Building.{building}

-- the functions on values, by their names
abbrev pub all_functions : List (Name × ValueFunction)
all_functions =
    (codes "EQL", Equality Eql) ∷
    (codes "EQUAL", Equality Equal) ∷
    (codes "NOT", Predicate Not) ∷
    (codes "CONSP", Predicate Consp) ∷
    (codes "SYMBOLP", Predicate Symbolp) ∷
    (codes "STRINGP", Predicate Stringp) ∷
    (codes "INTEGERP", Predicate Integerp) ∷
    (codes "CHARACTERP", Predicate Characterp) ∷
    (codes "VECTORP", Predicate Vectorp) ∷
    (codes "=", Comparison Same) ∷
    (codes "/=", Comparison Different) ∷
    (codes "<", Comparison Less) ∷
    (codes "<=", Comparison AtMost) ∷
    (codes ">", Comparison Greater) ∷
    (codes ">=", Comparison AtLeast) ∷
    (codes "MIN", Extreme Min) ∷
    (codes "MAX", Extreme Max) ∷
    (codes "+", Arithmetic Plus) ∷
    (codes "-", Arithmetic Minus) ∷
    (codes "*", Arithmetic Times) ∷
    (codes "FLOOR", Division Floor) ∷
    (codes "MOD", Division Mod) ∷
    (codes "STRING=", OnTexts SameText) ∷
    (codes "STRING<", OnTexts TextLess) ∷
    (codes "SYMBOL-NAME", OnTexts SymbolName) ∷
    (codes "CONS", OnLists Cons) ∷
    (codes "CAR", OnLists Car) ∷
    (codes "CDR", OnLists Cdr) ∷
    (codes "NTH", OnLists Nth) ∷
    (codes "MEMBER", OnLists Member) ∷
    (codes "ASSOC", OnLists Assoc) ∷
    (codes "ADJOIN", OnLists Adjoin) ∷
    (codes "LENGTH", OnSequences Length) ∷
    (codes "REVERSE", OnSequences Reverse) ∷
    (codes "REMOVE", OnSequences Remove) ∷
    (codes "SVREF", OnSequences Svref) ∷
    (codes "APPEND", Building Append) ∷
    (codes "VECTOR", Building Vector) ∷
    []

-- the function beside the name
abbrev pub function_among : List (Name × ValueFunction) → Name → Option ValueFunction
function_among [] name = None
function_among (row ∷ rows) name = if bytes_eq row.0 name then Some row.1 else function_among rows name

-- rows of the code, where a name is a reference to its text
abbrev pub function_rows : List (Bor Name × ValueFunction) → List (Name × ValueFunction)
function_rows = map (λ row. (row.0.now, row.1))

-- the function with this name
unfoldable pub function_named : Name → Option ValueFunction
function_named name = function_among all_functions name

-- how many arguments it takes at least
abbrev pub fewest_arguments : ValueFunction → ℕ
fewest_arguments (Equality function) = 2
fewest_arguments (Predicate function) = 1
fewest_arguments (Comparison function) = 1
fewest_arguments (Extreme function) = 1
fewest_arguments (Arithmetic Plus) = 0
fewest_arguments (Arithmetic Minus) = 1
fewest_arguments (Arithmetic Times) = 0
fewest_arguments (Division Floor) = 1
fewest_arguments (Division Mod) = 2
fewest_arguments (OnTexts SameText) = 2
fewest_arguments (OnTexts TextLess) = 2
fewest_arguments (OnTexts SymbolName) = 1
fewest_arguments (OnLists Cons) = 2
fewest_arguments (OnLists Car) = 1
fewest_arguments (OnLists Cdr) = 1
fewest_arguments (OnLists Nth) = 2
fewest_arguments (OnLists Member) = 2
fewest_arguments (OnLists Assoc) = 2
fewest_arguments (OnLists Adjoin) = 2
fewest_arguments (OnSequences Length) = 1
fewest_arguments (OnSequences Reverse) = 1
fewest_arguments (OnSequences Remove) = 2
fewest_arguments (OnSequences Svref) = 2
fewest_arguments (Building function) = 0

-- how many it takes at most, where there is such a number
abbrev pub most_arguments : ValueFunction → Option ℕ
most_arguments (Equality function) = Some 2
most_arguments (Predicate function) = Some 1
most_arguments (Comparison Same) = None
most_arguments (Comparison Different) = Some 2
most_arguments (Comparison Less) = None
most_arguments (Comparison AtMost) = None
most_arguments (Comparison Greater) = None
most_arguments (Comparison AtLeast) = None
most_arguments (Extreme function) = None
most_arguments (Arithmetic function) = None
most_arguments (Division function) = Some 2
most_arguments (OnTexts SameText) = Some 2
most_arguments (OnTexts TextLess) = Some 2
most_arguments (OnTexts SymbolName) = Some 1
most_arguments (OnLists Cons) = Some 2
most_arguments (OnLists Car) = Some 1
most_arguments (OnLists Cdr) = Some 1
most_arguments (OnLists Nth) = Some 2
most_arguments (OnLists Member) = Some 2
most_arguments (OnLists Assoc) = Some 2
most_arguments (OnLists Adjoin) = Some 2
most_arguments (OnSequences Length) = Some 1
most_arguments (OnSequences Reverse) = Some 1
most_arguments (OnSequences Remove) = Some 2
most_arguments (OnSequences Svref) = Some 2
most_arguments (Building function) = None

-- what it gives of the values of its arguments
abbrev pub function_value : ValueFunction → List Object → FunctionValue
function_value (Equality function) xs = equality function xs
function_value (Predicate function) xs = predicate function xs
function_value (Comparison function) xs = comparison function xs
function_value (Extreme function) xs = extreme function xs
function_value (Arithmetic function) xs = arithmetic function xs
function_value (Division function) xs = division function xs
function_value (OnTexts function) xs = on_texts function xs
function_value (OnLists function) xs = on_lists function xs
function_value (OnSequences function) xs = on_sequences function xs
function_value (Building function) xs = building function xs

-- Of a function that takes any number of arguments, the values are such that LIST could make a list of them.
abbrev pub if_listed : Option ℕ → List Object → FunctionValue → FunctionValue
if_listed (Some n) xs value = value
if_listed None xs value =
    if nat_lt 100 (object_depth (list_of xs)) then Err VALUE_TOO_DEEP
    else (if nat_lt 1000000 (object_size (list_of xs)) then Err LIMIT else value)

-- what a call of it gives
abbrev pub call_value : ValueFunction → List Object → FunctionValue
call_value function xs = if_listed (most_arguments function) xs (function_value function xs)
