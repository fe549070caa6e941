-- Pairs and lists (standard 14.2).
use Rattle.std.specs.Prelude.{ℕ, zero, suc, ℤ, pos, negsuc, if◌then◌else◌, List, [], ◌∷◌, Ok, Err}
use Rattle.lisp_object.specs.Object.{Object, symbol, pair, nil, is_nil, object_is_list}
use Rattle.lisp_object.specs.declared.refusal.TheConstants.{ARGUMENT_KIND, INTEGER_RANGE}
use Rattle.lisp_operators.specs.ArgumentKinds.{is_pair, an_integer}
use Rattle.value_functions.specs.declared.functions.OnLists.{OnLists}
use Rattle.value_functions.specs.declared.functions.OnLists.TheVariants.{Cons, Car, Cdr, Nth, Member, Assoc, Adjoin}
use Rattle.value_functions.specs.FunctionAnswers.{FunctionValue, if_of_kind, if_within, then_value}
use Rattle.value_functions.specs.Equality.{is_eql}

-- NIL at the end of a list; a list that ends in another object is refused where its end is come to
abbrev pub past_end : Object → FunctionValue
past_end (symbol home name) = if is_nil home name then Ok nil else Err ARGUMENT_KIND
past_end _ = Err ARGUMENT_KIND

-- CAR: the first of a pair, and NIL of NIL
abbrev pub car : Object → FunctionValue
car (pair x rest) = Ok x
car x = past_end x

-- CDR: what comes after the first of a pair, and NIL of NIL
abbrev pub cdr : Object → FunctionValue
cdr (pair x rest) = Ok rest
cdr x = past_end x

-- NTH: the first item after so many others, and NIL where there is none
abbrev pub nth_in : ℕ → Object → FunctionValue
nth_in zero (pair x rest) = Ok x
nth_in (suc n) (pair x rest) = nth_in n rest
nth_in n x = past_end x

-- an index is an integer, and not negative
abbrev pub nth_at : ℤ → Object → FunctionValue
nth_at (pos n) list = nth_in n list
nth_at (negsuc n) list = if object_is_list list then Err INTEGER_RANGE else Err ARGUMENT_KIND

abbrev pub nth_value : Object → Object → FunctionValue
nth_value x list = if_of_kind (an_integer x) (λ n. nth_at n list)

-- MEMBER: the list from the first item on that is EQL to this object, and NIL where there is none
abbrev pub member : Object → Object → FunctionValue
member x (pair y rest) = if is_eql x y then Ok (pair y rest) else member x rest
member x end = past_end end

-- ASSOC: the first item, a pair, whose CAR is EQL to this object, and NIL where there is none. An item NIL is passed over.
abbrev pub assoc : Object → Object → FunctionValue
assoc x (pair (pair key value) rest) = if is_eql x key then Ok (pair key value) else assoc x rest
assoc x (pair (symbol home name) rest) = if is_nil home name then assoc x rest else Err ARGUMENT_KIND
assoc x (pair _ rest) = Err ARGUMENT_KIND
assoc x end = past_end end

-- ADJOIN: the list, with this object in front where it is not a member
abbrev pub adjoin : Object → Object → FunctionValue
adjoin x list = then_value (member x list) (λ found. if is_pair found then Ok list else if_within (pair x list))

-- what a function of one list gives
abbrev pub of_list : OnLists → Object → FunctionValue
of_list Car x = car x
of_list Cdr x = cdr x
of_list _ x = Err ARGUMENT_KIND

-- what a function of an object and a list gives
abbrev pub function_of_list : OnLists → Object → Object → FunctionValue
function_of_list Cons x y = if_within (pair x y)
function_of_list Nth x y = nth_value x y
function_of_list Member x y = member x y
function_of_list Assoc x y = assoc x y
function_of_list Adjoin x y = adjoin x y
function_of_list _ x y = Err ARGUMENT_KIND

-- what a function on lists gives of its arguments: one or two of them
abbrev pub on_lists : OnLists → List Object → FunctionValue
on_lists function (x ∷ []) = of_list function x
on_lists function (x ∷ y ∷ []) = function_of_list function x y
on_lists function _ = Err ARGUMENT_KIND
