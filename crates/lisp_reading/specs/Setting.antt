-- What reading rests on, and the calls of macro functions.
use Rattle.std.specs.Prelude.{ℕ, Bool, true, false, if◌then◌else◌, List, Option, Some, option_map}
use Rattle.std.specs.Option.{option_map_or}
use Rattle.readtable_core.specs.Tables.{Table}
use Rattle.package_table.specs.Table.{Name, Table as Packages}
use Rattle.token_scan.specs.Marks.{characters}
use Rattle.user_macros.specs.declared.call.Gather.{Gather}
use Rattle.user_macros.specs.declared.call.Gather.TheVariants.{Nothing as GatherNothing, Next as GatherNext, Until as GatherUntil, Text as GatherText, TextSame, Line as GatherLine, Token as GatherToken}
use Rattle.user_macros.specs.Calls.{MacroCall, MacroAnswer}
use Rattle.user_macros.specs.Functions.{Functions, named_way, named_answer}
use Rattle.user_macros.specs.Calls as user
use Rattle.std_macros.specs.declared.kind.Standard.{Standard}
use Rattle.std_macros.specs.declared.kind.Standard.TheVariants.{Radix}
use Rattle.std_macros.specs.declared.kind.StdGather.{StdGather}
use Rattle.std_macros.specs.declared.kind.StdGather.TheVariants.{Nothing as StdNothing, One as StdOne, List as StdList, Many as StdMany, Text as StdText, Line as StdLine, Block as StdBlock, Token as StdToken, EscapedToken as StdEscapedToken}
use Rattle.std_macros.specs.Kinds.{kinds, kind_among, way_of_standard, radix_of}
use Rattle.std_macros.specs.Values.{Material, nothing, one, many, dotted, letters, marked}
use Rattle.lisp_reading.specs.InvokedCalls.{InvokedCall, caller}
use Rattle.lisp_reading.specs.declared.limits.Limits.{Limits}
use Rattle.lisp_reading.specs.declared.way.Function.{Function}
use Rattle.lisp_reading.specs.declared.way.Function.TheVariants.{Standard as AStandard, User}
use Rattle.lisp_reading.specs.declared.way.Way.{Way}
use Rattle.lisp_reading.specs.declared.way.Way.TheVariants.{Nothing, Next, List as AList, Until, Text, Line, Block, Token, EscapedToken}
use Rattle.lisp_reading.specs.declared.way.Keep.TheVariants.{Kept, Dropped}

-- The limits, the readtable in force, the base of numbers (standard 23.1.2, *READ-BASE*), the packages and the current one,
-- and of the functions of users what each gathers and answers.
pub record Setting : Type 0 where
  pub limits : Limits
  pub table : Table
  pub base : ℕ
  pub packages : Packages
  pub current : Name
  pub way : List ℕ → Option Gather
  pub answer : List ℕ → MacroCall → MacroAnswer

-- Reading under these limits, this readtable, in this base, in this package, with these functions. A name that is not among
-- theirs is that of no function.
abbrev pub setting_of : Limits → Table → ℕ → Packages → Name → Functions → Setting
setting_of limits table base packages current functions = record {
  limits = limits;
  table = table;
  base = base;
  packages = packages;
  current = current;
  way = named_way functions;
  answer = named_answer functions;
}

-- ---- the way in which a function gathers

-- how a standard function gathers, as a way; lists and vectors go to the closing parenthesis, which is 41
abbrev pub standard_way : ℕ → StdGather → Way
standard_way same StdNothing = Nothing
standard_way same StdOne = Next
standard_way same StdList = AList
standard_way same StdMany = Until 41
standard_way same StdText = Text same
standard_way same StdLine = Line Dropped
standard_way same StdBlock = Block
standard_way same StdToken = Token
standard_way same StdEscapedToken = EscapedToken

-- STD-RADIX is called without a base before its token is read
abbrev pub is_baseless : Standard → Option ℕ → Bool
is_baseless Radix number = option_map_or (λ base. false) (radix_of number) true
is_baseless _ number = false

-- how the function of a user gathers, by what it was registered with
abbrev pub user_way : ℕ → Gather → Way
user_way same GatherNothing = Nothing
user_way same GatherNext = Next
user_way same (GatherUntil close) = Until close
user_way same (GatherText close) = Text close
user_way same TextSame = Text same
user_way same GatherLine = Line Kept
user_way same GatherToken = Token

-- what the function of a call gathers; None where there is no function of the name
abbrev pub way_by : Setting → InvokedCall → Function → Option Way
way_by setting call (AStandard kind) = Some (if is_baseless kind call.number then Nothing else standard_way (caller call) (way_of_standard kind))
way_by setting call (User name) = option_map (user_way (caller call)) (setting.way name)

-- what the function of this call gathers, in this setting
abbrev pub way_in : Setting → InvokedCall → Option Way
way_in setting call = way_by setting call call.function

-- ---- what a function of a user is given

-- what a function of a user is handed of what was gathered; of a list with a dot, nothing
abbrev pub user_material : Material → user.Material
user_material nothing = user.nothing
user_material (one x) = user.one x
user_material (many xs) = user.many xs
user_material (dotted xs tail) = user.nothing
user_material (letters cs) = user.text cs
user_material (marked marks) = user.text (characters marks)

-- the call that a function of a user is handed
abbrev pub macro_call : InvokedCall → Material → MacroCall
macro_call call material =
    record { character = call.character; sub = call.sub; number = call.number; gathered = user_material material }

-- ---- the function of a name

-- a standard function where the name is one of theirs, else that of a user
abbrev pub function_of : List ℕ → Function
function_of name = option_map_or (λ kind. AStandard kind) (kind_among kinds name) (User name)
