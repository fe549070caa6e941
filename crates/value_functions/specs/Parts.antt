-- The parts of a list: its items, and what ends it.
use Rattle.std.specs.Prelude.{◌≡◌, ℕ, true, false, List, drop, Option, Some, None, option_map, IfSome, Ok}
use Rattle.std.specs.Borrow.{Bor}
use Rattle.lisp_object.specs.declared.datum.Datum.{Datum}
use Rattle.lisp_object.specs.Object.{Object, pairs, object_is_list}
use Rattle.lisp_object.specs.Datum.{object_of, is_proper, is_list}
use Rattle.lisp_operators.specs.ArgumentKinds.{is_pair}
use Rattle.lisp_operators.specs.EvaluationAnswers.{or_nil, objects}
use Rattle.value_functions.specs.FunctionAnswers.{FunctionValue}
use Rattle.value_functions.specs.Lists.{past_end}

-- the object that ends a list: NIL where there is no other
abbrev pub end_of : Option (Bor Datum) → Object
end_of end = or_nil (option_map (λ d. object_of d.now) end)

-- a proper datum that is no list, where there is one
abbrev pub IsListEnd : Option (Bor Datum) → Type 0
IsListEnd end = IfSome end (λ d. (is_proper d.now ≡ true) × (is_list d.now ≡ false))

-- a list by its items and what ends it, which is no pair; or what is no list
abbrev pub HasParts : Object → Option (Bor (List Datum) × Option (Bor Datum)) → Type 0
HasParts x (Some p) = (x ≡ pairs (objects p.0.now) (end_of p.1)) × (object_is_list x ≡ true)
HasParts x None = object_is_list x ≡ false

-- the list from the item at this place on, or what is given at its end
abbrev pub from_place : List Object → Object → Option ℕ → FunctionValue
from_place xs end (Some k) = Ok (pairs (drop k xs) end)
from_place xs end None = past_end end
