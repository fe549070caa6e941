-- Calls and answers of macro functions as definitions see them: over objects, and free of how data are kept.
use Rattle.std.specs.Prelude.{ℕ, if◌then◌else◌, List, map, Option}
use Rattle.lisp_object.specs.Object.{Object}
use Rattle.lisp_object.specs.Datum.{object_of, is_proper}
use Rattle.user_macros.specs.declared.call.Gathered.{Gathered}
use Rattle.user_macros.specs.declared.call.Gathered.TheVariants.{Nothing, One, Many, Text}
use Rattle.user_macros.specs.declared.call.Call.{Call}
use Rattle.user_macros.specs.declared.call.Answer.{Answer}
use Rattle.user_macros.specs.declared.call.Answer.TheVariants.{One as OneAnswer, Nothing as NoAnswer, Refused}

-- what was gathered
pub data Material : Type 0 where
  nothing : Material
  one : Object → Material
  many : List Object → Material
  text : List ℕ → Material

-- the macro character, the sub-character in upper case, the numeric argument, and what was gathered
pub record MacroCall : Type 0 where
  pub character : ℕ
  pub sub : Option ℕ
  pub number : Option ℕ
  pub gathered : Material

-- what a macro function answers to a call
pub data MacroAnswer : Type 0 where
  value : Object → MacroAnswer
  no_value : MacroAnswer
  -- a datum that is not proper, and so no object
  improper : MacroAnswer
  refused : ℕ → MacroAnswer

-- what a call gathered, as the logic has it
abbrev pub material_of : Gathered → Material
material_of Nothing = nothing
material_of (One datum) = one (object_of datum)
material_of (Many data') = many (map object_of data')
material_of (Text bytes) = text bytes

-- a call of the program, as one of the logic
abbrev pub call_of : Call → MacroCall
call_of c = record { character = c.character; sub = c.sub; number = c.number; gathered = material_of c.gathered }

-- an answer of the program, as one of the logic
abbrev pub answer_of : Answer → MacroAnswer
answer_of (OneAnswer datum) = if is_proper datum then value (object_of datum) else improper
answer_of NoAnswer = no_value
answer_of (Refused number) = refused number
