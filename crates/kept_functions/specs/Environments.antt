-- Variables, and the values that they have in a place of a form (standard 3.1.1.3, lexical environments).
use Rattle.std.specs.Prelude.{Bool, true, false, ◌&&◌, ◌||◌, not, if◌then◌else◌, List, [], ◌∷◌, ◌++◌, Option, Some, None, option_and_then, bytes_eq, codes}
use Rattle.std.specs.List.{list_any}
use Rattle.lisp_object.specs.Object.{Object, symbol}
use Rattle.package_table.specs.Table.{Name, common_lisp, keyword}
use Rattle.plist_state.specs.Properties.{Symbol}
use Rattle.lisp_operators.specs.Members.{each_in}
use Rattle.value_functions.specs.Sequences.{items_of}

-- each variable with its value, the innermost first
abbrev pub Environment : Type 0
Environment = List (Symbol × Object)

-- whether two variables are one
abbrev pub is_same_variable : Symbol → Symbol → Bool
is_same_variable x y = bytes_eq x.0 y.0 && bytes_eq x.1 y.1

-- the value of a variable
abbrev pub bound : Environment → Symbol → Option Object
bound [] x = None
bound (b ∷ bs) x = if is_same_variable b.0 x then Some b.1 else bound bs x

-- these variables with these values, the last of them innermost, and then what is around them
abbrev pub binding : List Symbol → List Object → Environment → Environment
binding (x ∷ xs) (v ∷ vs) around = binding xs vs ((x, v) ∷ around)
binding _ _ around = around

-- the constants and the variables of the language, which no form binds (standard 11.1.2.1.2)
abbrev pub is_global : Symbol → Bool
is_global x =
    bytes_eq x.0 keyword
    || (bytes_eq x.0 common_lisp
    && list_any (bytes_eq x.1) (codes "T" ∷ codes "NIL" ∷ codes "*PACKAGE*" ∷ codes "*READTABLE*" ∷ codes "*READ-BASE*" ∷ []))

-- the variable that an object names, if it may be bound
abbrev pub a_variable : Object → Option Symbol
a_variable (symbol home name) = if is_global (home, name) then None else Some (home, name)
a_variable _ = None

-- whether no variable stands twice
abbrev pub are_distinct : List Symbol → Bool
are_distinct [] = true
are_distinct (x ∷ xs) = not (list_any (is_same_variable x) xs) && are_distinct xs

-- a list of variables, each once
abbrev pub distinct_variables : Option (List Symbol) → Option (List Symbol)
distinct_variables (Some xs) = if are_distinct xs then Some xs else None
distinct_variables None = None

-- the variables that the items of a list are
abbrev pub variables_among : List Object → Option (List Symbol)
variables_among xs = distinct_variables (each_in a_variable xs)

-- the variables that a list names, each once
abbrev pub variables_of : Object → Option (List Symbol)
variables_of x = option_and_then variables_among (items_of x)
