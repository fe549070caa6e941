-- What an object is (standard 4.2, 5.3).
use Rattle.std.specs.Prelude.{Bool, true, false, not, is_some, List, [], ◌∷◌, Ok, Err}
use Rattle.lisp_object.specs.Object.{Object, text, vector}
use Rattle.lisp_object.specs.declared.refusal.TheConstants.{ARGUMENT_KIND}
use Rattle.lisp_operators.specs.ArgumentKinds.{is_true, is_pair, an_integer, a_character, a_text}
use Rattle.value_functions.specs.declared.functions.Predicate.{Predicate}
use Rattle.value_functions.specs.declared.functions.Predicate.TheVariants.{Not, Consp, Symbolp, Stringp, Integerp, Characterp, Vectorp}
use Rattle.value_functions.specs.FunctionAnswers.{FunctionValue, truth_value}
use Rattle.value_functions.specs.TextValues.{a_symbol_name}

-- a vector, or a text, which is a vector of characters (standard 16.1)
abbrev pub is_vector : Object → Bool
is_vector (vector xs) = true
is_vector (text characters) = true
is_vector _ = false

-- whether an object is what a predicate asks for
abbrev pub has_predicate : Predicate → Object → Bool
has_predicate Not x = not (is_true x)
has_predicate Consp x = is_pair x
has_predicate Symbolp x = is_some (a_symbol_name x)
has_predicate Stringp x = is_some (a_text x)
has_predicate Integerp x = is_some (an_integer x)
has_predicate Characterp x = is_some (a_character x)
has_predicate Vectorp x = is_vector x

-- what a predicate gives of its one argument
abbrev pub predicate : Predicate → List Object → FunctionValue
predicate test (x ∷ []) = Ok (truth_value (has_predicate test x))
predicate test _ = Err ARGUMENT_KIND
