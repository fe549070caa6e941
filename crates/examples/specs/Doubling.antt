-- A macro function of one's own: DOUBLE reads an object and answers twice the integer; it refuses anything else.
use Rattle.std.specs.Prelude.{◌*ℤ◌, pos, if◌then◌else◌, [], ◌∷◌, Some, None, codes}
use Rattle.readtable_core.specs.Names.{same_name}
use Rattle.lisp_object.specs.Object.{integer}
use Rattle.lisp_operators.specs.Properties.{is_in_range}
use Rattle.user_macros.specs.declared.call.Gather.TheVariants.{Next}
use Rattle.user_macros.specs.Calls.{Material, one, MacroAnswer, value, refused}
use Rattle.user_macros.specs.Functions.{Functions}

-- what it answers: twice an integer, if that is in range, and else the refusal 1
abbrev pub doubled : Material → MacroAnswer
doubled (one (integer i)) = if is_in_range (i *ℤ pos 2) then value (integer (i *ℤ pos 2)) else refused 1
doubled _ = refused 1

-- the macro functions of this program: DOUBLE, which reads the next object
abbrev pub doubling : Functions
doubling = record {
  names = codes "DOUBLE" ∷ [];
  way = λ name. if same_name (codes "DOUBLE") name then Some Next else None;
  answer = λ name call. doubled call.gathered;
}
