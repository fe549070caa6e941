-- The operators that change a place which GET names, with a default or without (standard 12.2, 14.2): each of the values of the
-- place's subforms, and of the forms after it.
use Rattle.std.specs.Prelude.{◌≡◌, ℕ, ℤ, ◌+ℤ◌, ◌-ℤ◌, Bool, true, false, if◌then◌else◌, List, [], ◌∷◌, Option, Some, None, unwrap_or, Result, Ok, Err, codes}
use Rattle.std.specs.Str.{bytes_eq}
use Rattle.lisp_object.specs.Object.{Object, integer, symbol, pair, nil, is_nil}
use Rattle.lisp_object.specs.declared.refusal.TheConstants.{ARGUMENT_KIND, INTEGER_RANGE}
use Rattle.lisp_object.specs.declared.datum.Datum.{Datum}
use Rattle.lisp_object.specs.Datum.{object_of}
use Rattle.package_table.specs.Table.{Name}
use Rattle.plist_state.specs.Properties.{Symbol}
use Rattle.plist_state.specs.State.{WorldState}
use Rattle.plist_state.specs.Changes.{property, with_property}
use Rattle.lisp_operators.specs.declared.error.EvaluationError.{EvaluationError}
use Rattle.lisp_operators.specs.declared.error.EvaluationError.TheVariants.{Refused, OutOfMemory}
use Rattle.lisp_operators.specs.declared.places.PlaceChange.{PlaceChange}
use Rattle.lisp_operators.specs.declared.places.PlaceChange.TheVariants.{Stepped, Popped}
use Rattle.lisp_operators.specs.declared.places.Direction.{Direction}
use Rattle.lisp_operators.specs.declared.places.Direction.TheVariants.{Increment, Decrement}
use Rattle.lisp_operators.specs.Evaluation.{Evaluation, writes, of_kind}
use Rattle.lisp_operators.specs.declared.evaluated.Evaluated.{Evaluated}
use Rattle.lisp_operators.specs.EvaluationAnswers.{Answers, done}
use Rattle.lisp_operators.specs.ArgumentKinds.{a_symbol, an_integer}
use Rattle.lisp_operators.specs.Properties.{amount, is_in_range}

-- the integer that comes of another one and an amount
abbrev pub stepped : Direction → ℤ → ℤ → ℤ
stepped Increment m n = m +ℤ n
stepped Decrement m n = m -ℤ n

-- the integer that comes of another one and an amount, where it has at most 128 bits
abbrev pub if_stepped : Direction → ℤ → ℤ → Option ℤ
if_stepped way m n = if is_in_range (stepped way m n) then Some (stepped way m n) else None

-- INCF and DECF, by an integer or by 1: the sum or the difference. The property is read after all arguments, and where there is
-- none the default stands for it.
abbrev pub take_step : Direction → List Object → WorldState → Evaluation Object
take_step way (x ∷ i ∷ d ∷ rest) s =
    of_kind (a_symbol x) (λ x'. of_kind (a_symbol i) (λ i'. of_kind (amount rest) (λ n.
    of_kind (an_integer (unwrap_or (property s x' i') d)) (λ m.
    if is_in_range (stepped way m n) then writes (integer (stepped way m n)) (with_property s x' i' (integer (stepped way m n)))
    else Err INTEGER_RANGE))))
take_step way _ s = Err ARGUMENT_KIND

-- the first item of a list, and what comes after it (standard 14.2, car and cdr): of NIL both are NIL
abbrev pub parted : Object → Option (Object × Object)
parted (pair x rest) = Some (x, rest)
parted (symbol home name) = if is_nil home name then Some (nil, nil) else None
parted _ = None

-- POP of a place: the first item of the property, of which the rest stays. Where there is none the default stands for it.
abbrev pub popped_at : WorldState → Symbol → Symbol → Object → Evaluation Object
popped_at s x i d = of_kind (parted (unwrap_or (property s x i) d)) (λ p. writes p.0 (with_property s x i p.1))

-- POP: the same of its arguments
abbrev pub pop : List Object → WorldState → Evaluation Object
pop (x ∷ i ∷ d ∷ []) s = of_kind (a_symbol x) (λ x'. of_kind (a_symbol i) (λ i'. popped_at s x' i' d))
pop _ s = Err ARGUMENT_KIND

-- ---- all of them: the names, how many arguments each takes, the place among them, and what it does

-- the operator that changes a place with this name
abbrev pub change_named : Name → Option PlaceChange
change_named name =
    if bytes_eq name (codes "INCF") then Some (Stepped Increment)
    else (if bytes_eq name (codes "DECF") then Some (Stepped Decrement)
    else (if bytes_eq name (codes "POP") then Some Popped
    else None))

-- how many arguments it takes at most
abbrev pub most_of_change : PlaceChange → ℕ
most_of_change (Stepped way) = 2
most_of_change Popped = 1

-- the values of a place that has no default, with NIL for it
abbrev pub with_nil : List Object → List Object
with_nil (x ∷ i ∷ rest) = x ∷ i ∷ nil ∷ rest
with_nil xs = xs

-- the values, with NIL for the default where none is written
abbrev pub with_default : Bool → List Object → List Object
with_default true xs = xs
with_default false xs = with_nil xs

-- what an operator that changes a place does to the property
abbrev pub changed_place : PlaceChange → List Object → WorldState → Evaluation Object
changed_place (Stepped way) xs s = take_step way xs s
changed_place Popped xs s = pop xs s

-- where it is known whether the place has a default
abbrev pub place_changed : PlaceChange → Bool → List Object → WorldState → Evaluation Object
place_changed change has_default xs s = changed_place change (with_default has_default xs) s

-- The two parts of a list are told, or that it is none. Where memory ran out it says nothing.
abbrev pub IsParted : Result (Datum × Datum) EvaluationError → Option (Object × Object) → Type 0
IsParted (Ok p) o = o ≡ Some (object_of p.0, object_of p.1)
IsParted (Err (Refused code)) o = (code ≡ ARGUMENT_KIND) × (o ≡ None)
IsParted (Err OutOfMemory) o = Unit {0}

-- the value of POP of a place is told, from the first of two states to the second
abbrev pub Pops : WorldState → Symbol → Symbol → Object → WorldState → Result Evaluated EvaluationError → Type 0
Pops old x i d new result = Answers done result new (popped_at old x i d)
