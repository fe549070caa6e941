-- Functions that are kept in the world (standard 5.3, defun): a definition is the value of a property.
use Rattle.std.specs.Prelude.{Bool, ◌&&◌, ◌||◌, not, if◌then◌else◌, List, [], ◌∷◌, Option, Some, None, bytes_eq, codes, option_map, option_and_then, Err}
use Rattle.lisp_object.specs.Object.{Object, symbol, text, list_of}
use Rattle.lisp_object.specs.declared.refusal.TheConstants.{NAME_CONFLICT}
use Rattle.package_table.specs.Table.{Name, common_lisp, keyword}
use Rattle.plist_state.specs.Properties.{Symbol}
use Rattle.plist_state.specs.State.{WorldState}
use Rattle.plist_state.specs.Changes.{property}
use Rattle.lisp_operators.specs.Evaluation.{Evaluation, gives, and_then, of_kind}
use Rattle.lisp_operators.specs.ArgumentKinds.{a_symbol}
use Rattle.lisp_operators.specs.Packages.{intern}
use Rattle.lisp_operators.specs.Properties.{set}
use Rattle.value_functions.specs.Sequences.{items_of}
use Rattle.evaluator.specs.Operators.{pazturrok}
use Rattle.kept_functions.specs.Environments.{variables_of}

-- the variables, and the list of the forms
pub record Definition : Type 0 where
  pub variables : List Symbol
  pub body : Object

-- ((variable ..) form ..), by its items
abbrev pub definition_among : List Object → Option Definition
definition_among (variables ∷ forms) = option_map (λ xs. record { variables = xs; body = list_of forms }) (variables_of variables)
definition_among [] = None

-- the definition that a list is
abbrev pub definition_of : Object → Option Definition
definition_of x = option_and_then definition_among (items_of x)

-- A symbol that may name such a function. In COMMON-LISP and PAZTURROK a later program may have an operator of any name, so
-- that a function there could change its meaning.
abbrev pub is_undefinable : Name → Bool
is_undefinable home = bytes_eq home common_lisp || bytes_eq home pazturrok || bytes_eq home keyword

-- a name of any package but those that the language keeps to itself
abbrev pub is_definable : Symbol → Bool
is_definable x = not (is_undefinable x.0)

-- the indicator of such a property
abbrev pub definition_indicator : Symbol
definition_indicator = (pazturrok, codes "DEFINITION")

-- the function of a symbol. What is no definition is no function, however it came to be the property.
abbrev pub function_in : WorldState → Symbol → Option Definition
function_in s x = if is_definable x then option_and_then definition_of (property s x definition_indicator) else None

-- ---- DEFUN and DEFINE-READER

-- The symbol that INTERN gives for an indicator, where it is the indicator: PAZTURROK may have imported another one by its name.
abbrev pub own_indicator : Symbol → Object → Option Symbol
own_indicator i (symbol home name) = if bytes_eq home i.0 && bytes_eq name i.1 then Some i else None
own_indicator i _ = None

-- what is done with the indicator where INTERN gives it; else the names collide
abbrev pub with_definition_indicator : {A : Type 0} → Option Symbol → (Symbol → Evaluation A) → Evaluation A
with_definition_indicator (Some i) on = on i
with_definition_indicator None on = Err NAME_CONFLICT

-- The indicator is interned in PAZTURROK, SETF puts the definition beside it, and the value is the name.
abbrev pub kept_beside : Symbol → Object → Object → WorldState → Evaluation Object
kept_beside i name definition s =
    and_then (intern (text i.1 ∷ text i.0 ∷ []) s) (λ found later.
    with_definition_indicator (own_indicator i found) (λ own.
    and_then (set (name ∷ symbol own.0 own.1 ∷ definition ∷ []) later) (λ _ end'. gives name end')))

-- the name of a function that may be defined, if the object is one
abbrev pub a_definable : Object → Option Symbol
a_definable x = option_and_then (λ y. if is_definable y then Some y else None) (a_symbol x)

-- DEFUN, of its arguments as they are written: the name
abbrev pub defun_value : Object → Object → WorldState → Evaluation Object
defun_value name definition s =
    of_kind (a_definable name) (λ _. of_kind (definition_of definition) (λ _. kept_beside definition_indicator name definition s))
