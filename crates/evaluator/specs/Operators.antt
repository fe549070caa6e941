-- The operators (standard 3.1.2.1.2): the symbols that may be at the head of a form, and how many arguments each takes. They are
-- at home in COMMON-LISP; or in PAZTURROK, a package like others, which a form makes.
use Rattle.std.specs.Prelude.{◌≡◌, ℕ, ◌+◌, Bool, true, false, ◌&&◌, nat_le, if◌then◌else◌, List, Option, Some, None, option_map, Result, Ok, Err, codes}
use Rattle.std.specs.Str.{bytes_eq}
use Rattle.std.specs.Option.{option_map_or, option_or}
use Rattle.lisp_object.specs.Object.{Object, symbol, pair, nil}
use Rattle.package_table.specs.Table.{Name, common_lisp}
use Rattle.plist_state.specs.State.{WorldState}
use Rattle.lisp_operators.specs.Evaluation.{Evaluation, gives}
use Rattle.lisp_operators.specs.Properties.{list, get, remove, symbol_plist}
use Rattle.lisp_operators.specs.Packages.{make, intern, export, import, use_package}
use Rattle.lisp_operators.specs.declared.look_ups.LookUp.{LookUp}
use Rattle.lisp_operators.specs.declared.places.PlaceChange.{PlaceChange}
use Rattle.lisp_operators.specs.LookUps.{look_up_named, least_of_look_up, most_of_look_up, looked_up}
use Rattle.lisp_operators.specs.PropertyPlaces.{change_named, most_of_change, place_changed}
use Rattle.lisp_operators.specs.Readtables.{readtable_case, copy_readtable, enter_readtable, set_syntax, set_macro, get_macro, make_dispatch, set_dispatch, get_dispatch}
use Rattle.value_functions.specs.declared.functions.ValueFunction.{ValueFunction}
use Rattle.value_functions.specs.Functions as functions
use Rattle.value_functions.specs.Functions.{function_named, function_value, call_value}

-- What a form does: an operator with a rule of its own, or a function of the values of its arguments.
pub data Action : Type 0 where
  quotes : Action
  sequence : Action
  chooses : Action
  assigns : Action
  increments : Action
  pushes : Action
  enters_package : Action
  calls : (List Object → WorldState → Evaluation Object) → Action
  -- the first value whose truth is this; the first clause whose test is true; the forms after a test whose truth is this
  seeks : Bool → Action
  selects : Action
  guards : Bool → Action
  -- the first value of all; NIL where the first form is true, and else a refusal
  keeps_first : Action
  asserts : Action
  -- a place that GET names, of which it is known whether it has a default, and the forms after it
  changes : (Bool → List Object → WorldState → Evaluation Object) → Action

-- How many arguments an operator takes, and what it does with them.
pub record Operator : Type 0 where
  -- how many arguments at least, and how many at most
  pub least : ℕ
  pub most : Option ℕ
  pub action : Action

-- an operator of so many arguments
abbrev pub operator_of_arity : ℕ → ℕ → Action → Option Operator
operator_of_arity least most action = Some (record { least = least; most = Some most; action = action })

-- one of any number of arguments
abbrev pub takes_any : Action → Option Operator
takes_any action = Some (record { least = 0; most = None; action = action })

-- one of at least one argument
abbrev pub takes_one_or_more : Action → Option Operator
takes_one_or_more action = Some (record { least = 1; most = None; action = action })

-- the operator of this name, where these are the names of macro functions
abbrev pub operator_named : List Name → Name → Option Operator
operator_named names name =
    if bytes_eq name (codes "QUOTE") then operator_of_arity 1 1 quotes
    else (if bytes_eq name (codes "PROGN") then takes_any sequence
    else (if bytes_eq name (codes "IF") then operator_of_arity 2 3 chooses
    else (if bytes_eq name (codes "LIST") then takes_any (calls list)
    else (if bytes_eq name (codes "GET") then operator_of_arity 2 3 (calls get)
    else (if bytes_eq name (codes "SETF") then operator_of_arity 2 2 assigns
    else (if bytes_eq name (codes "REMPROP") then operator_of_arity 2 2 (calls remove)
    else (if bytes_eq name (codes "SYMBOL-PLIST") then operator_of_arity 1 1 (calls symbol_plist)
    else (if bytes_eq name (codes "INCF") then operator_of_arity 1 2 increments
    else (if bytes_eq name (codes "PUSH") then operator_of_arity 2 2 pushes
    else (if bytes_eq name (codes "MAKE-PACKAGE") then operator_of_arity 1 1 (calls make)
    else (if bytes_eq name (codes "IN-PACKAGE") then operator_of_arity 1 1 enters_package
    else (if bytes_eq name (codes "EXPORT") then operator_of_arity 1 2 (calls export)
    else (if bytes_eq name (codes "IMPORT") then operator_of_arity 1 2 (calls import)
    else (if bytes_eq name (codes "USE-PACKAGE") then operator_of_arity 1 2 (calls use_package)
    else (if bytes_eq name (codes "INTERN") then operator_of_arity 1 2 (calls intern)
    else (if bytes_eq name (codes "COPY-READTABLE") then operator_of_arity 2 2 (calls copy_readtable)
    else (if bytes_eq name (codes "IN-READTABLE") then operator_of_arity 1 1 (calls enter_readtable)
    else (if bytes_eq name (codes "SET-SYNTAX-FROM-CHAR") then operator_of_arity 2 4 (calls set_syntax)
    else (if bytes_eq name (codes "SET-MACRO-CHARACTER") then operator_of_arity 2 4 (calls (set_macro names))
    else (if bytes_eq name (codes "GET-MACRO-CHARACTER") then operator_of_arity 1 2 (calls get_macro)
    else (if bytes_eq name (codes "MAKE-DISPATCH-MACRO-CHARACTER") then operator_of_arity 1 3 (calls make_dispatch)
    else (if bytes_eq name (codes "SET-DISPATCH-MACRO-CHARACTER") then operator_of_arity 3 4 (calls (set_dispatch names))
    else (if bytes_eq name (codes "GET-DISPATCH-MACRO-CHARACTER") then operator_of_arity 2 3 (calls get_dispatch)
    else (if bytes_eq name (codes "READTABLE-CASE") then operator_of_arity 1 1 (calls readtable_case)
    else None))))))))))))))))))))))))

-- which objects are operators
abbrev pub OperatorTable : Type 0
OperatorTable = Object → Option Operator

-- the symbols of COMMON-LISP alone
abbrev pub standard_operator_of : List Name → OperatorTable
standard_operator_of names (symbol home name) = if bytes_eq home common_lisp then operator_named names name else None
standard_operator_of names _ = None

-- a function of values alone, in a state that stays as it is
abbrev pub value_here : WorldState → Result Object ℕ → Evaluation Object
value_here s (Ok x) = gives x s
value_here s (Err code) = Err code

-- what a function of values gives, in a state that stays as it is
abbrev pub computed : ValueFunction → List Object → WorldState → Evaluation Object
computed function xs s = value_here s (call_value function xs)

-- what a function of values gives that is applied to them, where the count of its arguments is not known to be right
abbrev pub computed_value : ValueFunction → List Object → WorldState → Evaluation Object
computed_value function xs s = value_here s (function_value function xs)

-- the package in which the operators are that are not of the standard, or not all of it
abbrev pub pazturrok : Name
pazturrok = codes "PAZTURROK"

-- a function of values as an operator
abbrev pub operator_of_function : ValueFunction → Operator
operator_of_function function = record { least = functions.fewest_arguments function; most = functions.most_arguments function; action = calls (computed function) }

-- an operator that looks up
abbrev pub operator_of_look_up : LookUp → Operator
operator_of_look_up operator = record { least = least_of_look_up operator; most = Some (most_of_look_up operator); action = calls (looked_up operator) }

-- an operator that changes a place
abbrev pub operator_of_change : PlaceChange → Operator
operator_of_change operator = record { least = 1; most = Some (most_of_change operator); action = changes (place_changed operator) }

-- an operator of the world by its name: it looks up, or changes a place
abbrev pub world_operator : Name → Option Operator
world_operator name = option_or (option_map operator_of_look_up (look_up_named name)) (option_map operator_of_change (change_named name))

-- the operator of this name that decides, or another one
abbrev pub deciding_operator_or : Option Operator → Name → Option Operator
deciding_operator_or other name =
    if bytes_eq name (codes "AND") then takes_any (seeks false)
    else (if bytes_eq name (codes "OR") then takes_any (seeks true)
    else (if bytes_eq name (codes "COND") then takes_any selects
    else (if bytes_eq name (codes "WHEN") then takes_one_or_more (guards true)
    else (if bytes_eq name (codes "UNLESS") then takes_one_or_more (guards false)
    else (if bytes_eq name (codes "PROG1") then takes_one_or_more keeps_first
    else (if bytes_eq name (codes "ASSERT") then operator_of_arity 1 2 asserts
    else other))))))

-- the operator of PAZTURROK of this name
abbrev pub pazturrok_operator : Name → Option Operator
pazturrok_operator name = deciding_operator_or (option_or (option_map operator_of_function (function_named name)) (world_operator name)) name

-- the operator of a symbol
abbrev pub operator_of : List Name → OperatorTable
operator_of names (symbol home name) =
    if bytes_eq home common_lisp then operator_named names name
    else (if bytes_eq home pazturrok then pazturrok_operator name else None)
operator_of names _ = None

-- each operator of the first table is the same one in the second
abbrev pub IsOperatorTableWithin : OperatorTable → OperatorTable → Type 0
IsOperatorTableWithin fewer more = (head : Object) (operator : Operator) → fewer head ≡ Some operator → more head ≡ Some operator

-- whether it is the symbol of COMMON-LISP with this name
abbrev pub is_standard : List ℕ → Object → Bool
is_standard name (symbol home own) = bytes_eq home common_lisp && bytes_eq own name
is_standard name _ = false

-- whether it is a symbol with a home
abbrev pub is_interned : Object → Bool
is_interned (symbol home name) = true
is_interned _ = false

-- the number of the elements of a list
abbrev pub count : Object → ℕ
count (pair x xs) = count xs + 1
count _ = 0

-- whether an operator takes so many arguments
abbrev pub counts : Operator → ℕ → Bool
counts operator n = nat_le operator.least n && option_map_or (λ most. nat_le n most) operator.most true

-- the first element of a list, or NIL of the empty one (standard 14.2, car)
abbrev pub first : Object → Object
first (pair x xs) = x
first _ = nil
