-- The operators on property lists and lists (standard 10.2, 14.2): each of the values of its arguments.
use Rattle.std.specs.Prelude.{ℤ, ◌+ℤ◌, pos, negsuc, ◌^◌, Bool, nat_lt, if◌then◌else◌, List, [], ◌∷◌, Option, Some, None, Err, unwrap_or, codes}
use Rattle.lisp_object.specs.Object.{Object, integer, symbol, pair, nil, list_of, object_depth, object_size}
use Rattle.lisp_object.specs.declared.refusal.TheConstants.{ARGUMENT_KIND, INTEGER_RANGE, VALUE_TOO_DEEP, LIMIT}
use Rattle.package_table.specs.Table.{common_lisp}
use Rattle.plist_state.specs.Properties.{Plist}
use Rattle.plist_state.specs.State.{WorldState}
use Rattle.plist_state.specs.Changes.{plist, property, with_property, without_property}
use Rattle.lisp_operators.specs.Evaluation.{Evaluation, gives, writes, of_kind}
use Rattle.lisp_operators.specs.ArgumentKinds.{a_symbol, an_integer, given_or_nil}

-- the symbol T
abbrev pub t : Object
t = symbol common_lisp (codes "T")

-- a value that was built: of depth at most 100, and of size at most 1,000,000
abbrev pub if_within_limits : Object → Evaluation Object → Evaluation Object
if_within_limits x on =
    if nat_lt 100 (object_depth x) then Err VALUE_TOO_DEEP
    else (if nat_lt 1000000 (object_size x) then Err LIMIT else on)

-- LIST
abbrev pub list : List Object → WorldState → Evaluation Object
list xs s = if_within_limits (list_of xs) (gives (list_of xs) s)

-- GET of a symbol and an indicator: the property, else the third argument, else NIL
abbrev pub get : List Object → WorldState → Evaluation Object
get (x ∷ i ∷ rest) s = of_kind (a_symbol x) (λ x'. of_kind (a_symbol i) (λ i'. gives (unwrap_or (property s x' i') (given_or_nil rest)) s))
get _ s = Err ARGUMENT_KIND

-- SETF of GET's place: the new value
abbrev pub set : List Object → WorldState → Evaluation Object
set (x ∷ i ∷ v ∷ []) s = of_kind (a_symbol x) (λ x'. of_kind (a_symbol i) (λ i'. writes v (with_property s x' i' v)))
set _ s = Err ARGUMENT_KIND

-- REMPROP: whether the symbol had the property
abbrev pub removed_property : Option Object → WorldState → WorldState → Evaluation Object
removed_property None old new = gives nil old
removed_property (Some v) old new = writes t new

-- REMPROP
abbrev pub remove : List Object → WorldState → Evaluation Object
remove (x ∷ i ∷ []) s =
    of_kind (a_symbol x) (λ x'. of_kind (a_symbol i) (λ i'. removed_property (property s x' i') s (without_property s x' i')))
remove _ s = Err ARGUMENT_KIND

-- indicators and values in turn
abbrev pub in_turn : Plist → List Object
in_turn [] = []
in_turn (p ∷ ps) = symbol p.0.0 p.0.1 ∷ p.1 ∷ in_turn ps

-- SYMBOL-PLIST
abbrev pub symbol_plist : List Object → WorldState → Evaluation Object
symbol_plist (x ∷ []) s = of_kind (a_symbol x) (λ x'. list (in_turn (plist s x')) s)
symbol_plist _ s = Err ARGUMENT_KIND

-- an integer of at most 128 bits
abbrev pub is_in_range : ℤ → Bool
is_in_range (pos n) = nat_lt n (2 ^ 127)
is_in_range (negsuc n) = nat_lt n (2 ^ 127)

-- by how much INCF adds: 1 where it is not given
abbrev pub amount : List Object → Option ℤ
amount [] = Some (pos 1)
amount (y ∷ ys) = an_integer y

-- INCF of GET's place, by an integer or by 1: the sum. The property is read after all arguments.
abbrev pub increment : List Object → WorldState → Evaluation Object
increment (x ∷ i ∷ rest) s =
    of_kind (a_symbol x) (λ x'. of_kind (a_symbol i) (λ i'. of_kind (amount rest) (λ n.
    of_kind (an_integer (unwrap_or (property s x' i') nil)) (λ m.
    if is_in_range (m +ℤ n) then writes (integer (m +ℤ n)) (with_property s x' i' (integer (m +ℤ n))) else Err INTEGER_RANGE))))
increment _ s = Err ARGUMENT_KIND

-- PUSH of a value to GET's place: the pair of it and the property, or NIL where there is none
abbrev pub push : List Object → WorldState → Evaluation Object
push (v ∷ x ∷ i ∷ []) s =
    of_kind (a_symbol x) (λ x'. of_kind (a_symbol i) (λ i'.
    if_within_limits (pair v (unwrap_or (property s x' i') nil))
    (writes (pair v (unwrap_or (property s x' i') nil)) (with_property s x' i' (pair v (unwrap_or (property s x' i') nil))))))
push _ s = Err ARGUMENT_KIND
