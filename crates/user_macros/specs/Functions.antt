-- The macro functions of a program: what they are called, how each gathers, and what each answers.
use Rattle.std.specs.Prelude.{ℕ, Bool, List, [], Option, None, if◌then◌else◌}
use Rattle.std.specs.List.{list_all}
use Rattle.readtable_core.specs.Names.{is_among}
use Rattle.user_macros.specs.declared.call.Gather.{Gather}
use Rattle.user_macros.specs.Calls.{MacroCall, MacroAnswer, refused}

-- their names, the way in which each gathers, and what each answers
pub record Functions : Type 0 where
  pub names : List (List ℕ)
  pub way : List ℕ → Option Gather
  pub answer : List ℕ → MacroCall → MacroAnswer

-- those of these names alone
abbrev pub named_among : List (List ℕ) → Functions → Functions
named_among names functions = record { names = names; way = functions.way; answer = functions.answer }

-- how the function of a name gathers; None if there is none of the name
abbrev pub named_way : Functions → List ℕ → Option Gather
named_way functions name = if is_among functions.names name then functions.way name else None

-- what the function of a name answers; one that is not there refuses each call
abbrev pub named_answer : Functions → List ℕ → MacroCall → MacroAnswer
named_answer functions name call = if is_among functions.names name then functions.answer name call else refused 0

-- whether each of the functions that are meant is registered
abbrev pub are_registered : (meant registered : Functions) → Bool
are_registered meant registered = list_all (is_among registered.names) meant.names

-- a program without macro functions
abbrev pub no_functions : Functions
no_functions = record { names = []; way = λ _. None; answer = λ _ _. refused 0 }
