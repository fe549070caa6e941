-- Sequences (standard 17.3) and vectors (15.2).
use Rattle.std.specs.Prelude.{ℕ, zero, suc, ℤ, pos, negsuc, ◌==◌, not, if◌then◌else◌, List, [], ◌∷◌, length, reverse, Option, Some, None, option_map, Ok, Err}
use Rattle.std.specs.List.{filter}
use Rattle.lisp_object.specs.Object.{Object, text, symbol, pair, vector, is_nil, list_of}
use Rattle.lisp_object.specs.declared.refusal.TheConstants.{ARGUMENT_KIND, INTEGER_RANGE}
use Rattle.lisp_operators.specs.ArgumentKinds.{a_character, an_integer}
use Rattle.value_functions.specs.declared.functions.OnSequences.{OnSequences}
use Rattle.value_functions.specs.declared.functions.OnSequences.TheVariants.{Length, Reverse, Remove, Svref}
use Rattle.value_functions.specs.FunctionAnswers.{FunctionValue, if_of_kind, if_in_range}
use Rattle.value_functions.specs.Equality.{is_eql}

-- a list that ends in NIL, a vector, or a text
pub data Sequence : Type 0 where
  list : List Object → Sequence
  items : List Object → Sequence
  characters : List ℕ → Sequence

-- the items of a list that ends in NIL
abbrev pub items_of : Object → Option (List Object)
items_of (pair x rest) = option_map (λ xs. x ∷ xs) (items_of rest)
items_of (symbol home name) = if is_nil home name then Some [] else None
items_of _ = None

-- the sequence that an object is
abbrev pub a_sequence : Object → Option Sequence
a_sequence (text cs) = Some (characters cs)
a_sequence (vector xs) = option_map items (items_of xs)
a_sequence x = option_map list (items_of x)

abbrev pub object_of_sequence : Sequence → Object
object_of_sequence (list xs) = list_of xs
object_of_sequence (items xs) = vector (list_of xs)
object_of_sequence (characters cs) = text cs

abbrev pub length_of : Sequence → ℕ
length_of (list xs) = length xs
length_of (items xs) = length xs
length_of (characters cs) = length cs

abbrev pub reversed : Sequence → Sequence
reversed (list xs) = list (reverse xs)
reversed (items xs) = items (reverse xs)
reversed (characters cs) = characters (reverse cs)

-- without this character, where it is one
abbrev pub other_characters : Option ℕ → List ℕ → List ℕ
other_characters (Some c) cs = filter (λ d. not (c == d)) cs
other_characters None cs = cs

-- without what is EQL to this object
abbrev pub without : Object → Sequence → Sequence
without x (list xs) = list (filter (λ y. not (is_eql x y)) xs)
without x (items xs) = items (filter (λ y. not (is_eql x y)) xs)
without x (characters cs) = characters (other_characters (a_character x) cs)

-- the items of a vector
abbrev pub a_vector : Object → Option (List Object)
a_vector (vector xs) = items_of xs
a_vector _ = None

-- the item at this place
abbrev pub item_in : ℕ → List Object → FunctionValue
item_in n [] = Err INTEGER_RANGE
item_in zero (x ∷ xs) = Ok x
item_in (suc n) (x ∷ xs) = item_in n xs

-- an index is not negative, and less than the number of items
abbrev pub item_at : List Object → ℤ → FunctionValue
item_at xs (pos n) = item_in n xs
item_at xs (negsuc n) = Err INTEGER_RANGE

-- what a function of one sequence gives
abbrev pub of_sequence : OnSequences → Object → FunctionValue
of_sequence Length x = if_of_kind (a_sequence x) (λ s. if_in_range (pos (length_of s)))
of_sequence Reverse x = if_of_kind (a_sequence x) (λ s. Ok (object_of_sequence (reversed s)))
of_sequence _ x = Err ARGUMENT_KIND

-- what a function of an object and a sequence gives
abbrev pub with_sequence : OnSequences → Object → Object → FunctionValue
with_sequence Remove x y = if_of_kind (a_sequence y) (λ s. Ok (object_of_sequence (without x s)))
with_sequence Svref x y = if_of_kind (a_vector x) (λ xs. if_of_kind (an_integer y) (item_at xs))
with_sequence _ x y = Err ARGUMENT_KIND

-- what a function on sequences gives of its arguments: one or two of them
abbrev pub on_sequences : OnSequences → List Object → FunctionValue
on_sequences function (x ∷ []) = of_sequence function x
on_sequences function (x ∷ y ∷ []) = with_sequence function x y
on_sequences function _ = Err ARGUMENT_KIND
