-- What is built of any number of objects (standard 14.2, 15.2).
use Rattle.std.specs.Prelude.{if◌then◌else◌, List, [], ◌∷◌, Ok, Err}
use Rattle.lisp_object.specs.Object.{Object, symbol, pair, vector, nil, is_nil, list_of}
use Rattle.lisp_object.specs.declared.refusal.TheConstants.{ARGUMENT_KIND}
use Rattle.value_functions.specs.declared.functions.Building.{Building}
use Rattle.value_functions.specs.declared.functions.Building.TheVariants.{Append, Vector}
use Rattle.value_functions.specs.FunctionAnswers.{FunctionValue, if_within, then_value}

-- the items of a list that ends in NIL, and this after them
abbrev pub followed_by : Object → Object → FunctionValue
followed_by (pair x rest) end = then_value (followed_by rest end) (λ joined. Ok (pair x joined))
followed_by (symbol home name) end = if is_nil home name then Ok end else Err ARGUMENT_KIND
followed_by _ end = Err ARGUMENT_KIND

-- APPEND: the items of lists that end in NIL, and whatever comes last after them
abbrev pub appended_lists : List Object → FunctionValue
appended_lists [] = Ok nil
appended_lists (x ∷ []) = Ok x
appended_lists (x ∷ xs) = then_value (appended_lists xs) (followed_by x)

-- what APPEND and VECTOR give of their arguments
abbrev pub building : Building → List Object → FunctionValue
building Append xs = then_value (appended_lists xs) if_within
building Vector xs = if_within (vector (list_of xs))
