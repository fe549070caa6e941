-- The operators as the evaluator has them: how many arguments each takes, and what it does.
use Rattle.std.specs.Prelude.{ℕ, ◌+◌, ◌≤◌, Bool, true, false, if◌then◌else◌, List, [], ◌∷◌, bytes_eq, codes, Option, Some, None, IfSome, is_some, Err}
use Rattle.lisp_object.specs.Object.{Object}
use Rattle.lisp_object.specs.declared.refusal.TheConstants.{ARGUMENT_KIND}
use Rattle.plist_state.specs.State.{WorldState}
use Rattle.package_table.specs.Table.{Name}
use Rattle.evaluator.specs.declared.operation.Operation.{Operation}
use Rattle.evaluator.specs.declared.operation.Operation.TheVariants.{Quote, Progn, If, MakeList, Get, Setf, Remprop, SymbolPlist, Incf, Push, MakePackage, InPackage, Export, Import, UsePackage, Intern, CopyReadtable, InReadtable, SetSyntaxFromChar, SetMacroCharacter, GetMacroCharacter, MakeDispatchMacroCharacter, SetDispatchMacroCharacter, GetDispatchMacroCharacter, ReadtableCase, Computes, Decides, LooksUp, Changes}
use Rattle.evaluator.specs.declared.decision.Decision.TheVariants.{And, Or, Cond, When, Unless, Prog1, Assert}
use Rattle.evaluator.specs.declared.place.PlaceForm.{PlaceForm}
use Rattle.evaluator.specs.declared.place.PlaceForm.TheVariants.{Property, PropertyOr, Case, ReadBase}
use Rattle.lisp_operators.specs.Evaluation.{Evaluation}
use Rattle.lisp_operators.specs.Properties.{list, get, set, remove, symbol_plist, increment, push}
use Rattle.lisp_operators.specs.Packages.{make, intern, export, import, use_package}
use Rattle.lisp_operators.specs.Readtables.{readtable_case, set_case, copy_readtable, enter_readtable, set_syntax, set_macro, get_macro, make_dispatch, set_dispatch, get_dispatch}
use Rattle.lisp_operators.specs.ReadBase.{set_base}
use Rattle.evaluator.specs.Operators.{Operator, Action, quotes, sequence, chooses, assigns, increments, pushes, enters_package, calls, seeks, selects, guards, keeps_first, asserts, computed, computed_value, changes}
use Rattle.lisp_operators.specs.LookUps.{least_of_look_up, most_of_look_up, looked_up}
use Rattle.lisp_operators.specs.PropertyPlaces.{most_of_change, place_changed}
use Rattle.value_functions.specs.Functions as functions

-- how many arguments it takes at least
abbrev pub least : Operation → ℕ
least Quote = 1
least Progn = 0
least If = 2
least MakeList = 0
least Get = 2
least Setf = 2
least Remprop = 2
least SymbolPlist = 1
least Incf = 1
least Push = 2
least MakePackage = 1
least InPackage = 1
least Export = 1
least Import = 1
least UsePackage = 1
least Intern = 1
least CopyReadtable = 2
least InReadtable = 1
least SetSyntaxFromChar = 2
least SetMacroCharacter = 2
least GetMacroCharacter = 1
least MakeDispatchMacroCharacter = 1
least SetDispatchMacroCharacter = 3
least GetDispatchMacroCharacter = 2
least ReadtableCase = 1
least (Computes function) = functions.fewest_arguments function
least (Decides And) = 0
least (Decides Or) = 0
least (Decides Cond) = 0
least (Decides When) = 1
least (Decides Unless) = 1
least (Decides Prog1) = 1
least (Decides Assert) = 1
least (LooksUp operator) = least_of_look_up operator
least (Changes operator) = 1

-- how many arguments it takes at most; None where there may be any number
abbrev pub most : Operation → Option ℕ
most Quote = Some 1
most Progn = None
most If = Some 3
most MakeList = None
most Get = Some 3
most Setf = Some 2
most Remprop = Some 2
most SymbolPlist = Some 1
most Incf = Some 2
most Push = Some 2
most MakePackage = Some 1
most InPackage = Some 1
most Export = Some 2
most Import = Some 2
most UsePackage = Some 2
most Intern = Some 2
most CopyReadtable = Some 2
most InReadtable = Some 1
most SetSyntaxFromChar = Some 4
most SetMacroCharacter = Some 4
most GetMacroCharacter = Some 2
most MakeDispatchMacroCharacter = Some 3
most SetDispatchMacroCharacter = Some 4
most GetDispatchMacroCharacter = Some 3
most ReadtableCase = Some 1
most (Computes function) = functions.most_arguments function
most (Decides Assert) = Some 2
most (Decides _) = None
most (LooksUp operator) = Some (most_of_look_up operator)
most (Changes operator) = Some (most_of_change operator)

-- what it does, where these are the names of macro functions
abbrev pub action_of : List Name → Operation → Action
action_of names Quote = quotes
action_of names Progn = sequence
action_of names If = chooses
action_of names MakeList = calls list
action_of names Get = calls get
action_of names Setf = assigns
action_of names Remprop = calls remove
action_of names SymbolPlist = calls symbol_plist
action_of names Incf = increments
action_of names Push = pushes
action_of names MakePackage = calls make
action_of names InPackage = enters_package
action_of names Export = calls export
action_of names Import = calls import
action_of names UsePackage = calls use_package
action_of names Intern = calls intern
action_of names CopyReadtable = calls copy_readtable
action_of names InReadtable = calls enter_readtable
action_of names SetSyntaxFromChar = calls set_syntax
action_of names SetMacroCharacter = calls (set_macro names)
action_of names GetMacroCharacter = calls get_macro
action_of names MakeDispatchMacroCharacter = calls make_dispatch
action_of names SetDispatchMacroCharacter = calls (set_dispatch names)
action_of names GetDispatchMacroCharacter = calls get_dispatch
action_of names ReadtableCase = calls readtable_case
action_of names (Computes function) = calls (computed function)
action_of names (Decides And) = seeks false
action_of names (Decides Or) = seeks true
action_of names (Decides Cond) = selects
action_of names (Decides When) = guards true
action_of names (Decides Unless) = guards false
action_of names (Decides Prog1) = keeps_first
action_of names (Decides Assert) = asserts
action_of names (LooksUp operator) = calls (looked_up operator)
action_of names (Changes operator) = changes (place_changed operator)

-- the operator that it is, where these are the names of macro functions
abbrev pub operator : List Name → Operation → Operator
operator names operation = record { least = least operation; most = most operation; action = action_of names operation }

-- a list with so many elements, an operator among them, has a right number of arguments
abbrev pub OperationTakesCount : Operation → ℕ → Type 0
OperationTakesCount operation n = (least operation + 1 ≤ n) × IfSome (most operation) (λ m. n ≤ m + 1)

-- whether it gives a function of the values of its arguments, of which all are held
abbrev pub is_ordinary : Operation → Bool
is_ordinary Quote = false
is_ordinary Progn = false
is_ordinary If = false
is_ordinary MakeList = false
is_ordinary InPackage = false
is_ordinary (Computes function) = is_some (functions.most_arguments function)
is_ordinary (Decides decision) = false
is_ordinary _ = true

-- that function; SETF has three, as its place is the read base, a readtable's case or a property
abbrev pub of_values : Action → List Object → WorldState → Evaluation Object
of_values (calls function) xs s = function xs s
of_values _ xs s = Err ARGUMENT_KIND

-- what SETF does at a place of each kind
abbrev pub set_at : PlaceForm → List Object → WorldState → Evaluation Object
set_at Property xs s = set xs s
set_at PropertyOr xs s = set xs s
set_at Case xs s = set_case xs s
set_at ReadBase xs s = set_base xs s

-- whether a property has a default there
abbrev pub has_default_at : PlaceForm → Bool
has_default_at PropertyOr = true
has_default_at _ = false

-- what an operation gives of the values of its arguments, and of the kind of its place
abbrev pub function_of_operation : List Name → Operation → PlaceForm → List Object → WorldState → Evaluation Object
function_of_operation names Setf place xs s = set_at place xs s
function_of_operation names Incf place xs s = increment xs s
function_of_operation names Push place xs s = push xs s
function_of_operation names MakeList place xs s = Err ARGUMENT_KIND
function_of_operation names (Computes function) place xs s = computed_value function xs s
function_of_operation names (Decides decision) place xs s = Err ARGUMENT_KIND
function_of_operation names (Changes operator) place xs s = place_changed operator (has_default_at place) xs s
function_of_operation names operation place xs s = of_values (action_of names operation) xs s

-- the operators of control and on data, by their names
abbrev pub operators_on_data : List (Name × Operation)
operators_on_data =
    (codes "QUOTE", Quote) ∷
    (codes "PROGN", Progn) ∷
    (codes "IF", If) ∷
    (codes "LIST", MakeList) ∷
    (codes "GET", Get) ∷
    (codes "SETF", Setf) ∷
    (codes "REMPROP", Remprop) ∷
    (codes "SYMBOL-PLIST", SymbolPlist) ∷
    (codes "INCF", Incf) ∷
    (codes "PUSH", Push) ∷ []

-- the operators on packages
abbrev pub operators_on_packages : List (Name × Operation)
operators_on_packages =
    (codes "MAKE-PACKAGE", MakePackage) ∷
    (codes "IN-PACKAGE", InPackage) ∷
    (codes "EXPORT", Export) ∷
    (codes "IMPORT", Import) ∷
    (codes "USE-PACKAGE", UsePackage) ∷
    (codes "INTERN", Intern) ∷ []

-- the operators on readtables
abbrev pub operators_on_readtables : List (Name × Operation)
operators_on_readtables =
    (codes "COPY-READTABLE", CopyReadtable) ∷
    (codes "IN-READTABLE", InReadtable) ∷
    (codes "SET-SYNTAX-FROM-CHAR", SetSyntaxFromChar) ∷
    (codes "SET-MACRO-CHARACTER", SetMacroCharacter) ∷
    (codes "GET-MACRO-CHARACTER", GetMacroCharacter) ∷
    (codes "MAKE-DISPATCH-MACRO-CHARACTER", MakeDispatchMacroCharacter) ∷
    (codes "SET-DISPATCH-MACRO-CHARACTER", SetDispatchMacroCharacter) ∷
    (codes "GET-DISPATCH-MACRO-CHARACTER", GetDispatchMacroCharacter) ∷
    (codes "READTABLE-CASE", ReadtableCase) ∷ []

-- the operators that decide, by their names
abbrev pub operators_that_decide : List (Name × Operation)
operators_that_decide =
    (codes "AND", Decides And) ∷
    (codes "OR", Decides Or) ∷
    (codes "COND", Decides Cond) ∷
    (codes "WHEN", Decides When) ∷
    (codes "UNLESS", Decides Unless) ∷
    (codes "PROG1", Decides Prog1) ∷
    (codes "ASSERT", Decides Assert) ∷ []

-- the one beside this name
abbrev pub among : List (Name × Operation) → Name → Option Operation
among [] name = None
among (r ∷ rs) name = if bytes_eq name r.0 then Some r.1 else among rs name
