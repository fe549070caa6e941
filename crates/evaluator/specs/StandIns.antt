-- What is seen of an evaluation of whose value less is asked.
use Rattle.std.specs.Prelude.{pos, if◌then◌else◌, nat_lt, Ok, Err}
use Rattle.lisp_object.specs.Object.{Object, integer, object_depth}
use Rattle.lisp_operators.specs.ArgumentKinds.{is_true}
use Rattle.lisp_operators.specs.Evaluation.{Evaluation}
use Rattle.lisp_operators.specs.declared.list_builder.ListBuilder.{ListBuilder}
use Rattle.lisp_operators.specs.declared.list_builder.ListBuilder.TheVariants.{Within, TooDeep, TooLarge}
use Rattle.evaluator.specs.declared.wanted.ValueUse.{ValueUse}
use Rattle.evaluator.specs.declared.wanted.ValueUse.TheVariants.{Value, Truth, Depth, Nothing}

-- what stands for a value: an integer for all but NIL where its truth is asked for, for all that a list may have as an item where
-- its depth is, and for all where nothing is
abbrev pub stand_in : ValueUse → Object → Object
stand_in Value x = x
stand_in Truth x = if is_true x then integer (pos 1) else x
stand_in Depth x = if nat_lt 99 (object_depth x) then x else integer (pos 1)
stand_in Nothing x = integer (pos 1)

-- what is asked of one value more for a list: its depth alone where the values are too large together, as that is refused first
abbrev pub wanted_for : ListBuilder → ValueUse
wanted_for (Within values size) = Value
wanted_for TooLarge = Depth
wanted_for TooDeep = Nothing

-- the state and whether anything was written are as they are
abbrev pub seen : ValueUse → Evaluation Object → Evaluation Object
seen wanted (Ok d) = Ok (record d { value = stand_in wanted d.value })
seen wanted (Err code) = Err code
