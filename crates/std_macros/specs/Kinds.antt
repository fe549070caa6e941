-- The standard functions: their names, and the ways in which they gather.
use Rattle.std.specs.Prelude.{ℕ, ◌&&◌, nat_le, List, [], ◌∷◌, ◌++◌, Option, Some, None, if◌then◌else◌}
use Rattle.readtable_core.specs.Names.{same_name, std_list, std_close, std_quote, std_comment, std_string, std_out, std_char, std_function, std_vector, std_uninterned, std_block, std_binary, std_octal, std_hex, std_radix}
use Rattle.std_macros.specs.declared.kind.Standard.{Standard}
use Rattle.std_macros.specs.declared.kind.Standard.TheVariants.{List as AList, Close, Quote, Comment, String, Out, Char, Function, Vector, Uninterned, Block, Binary, Octal, Hex, Radix}
use Rattle.std_macros.specs.declared.kind.StdGather.{StdGather}
use Rattle.std_macros.specs.declared.kind.StdGather.TheVariants.{Nothing, One, List as ByList, Many, Text, Line, Block as ByBlock, Token, EscapedToken}

-- the name under which a readtable has each of the standard functions
abbrev pub name_of_standard : Standard → List ℕ
name_of_standard AList = std_list
name_of_standard Close = std_close
name_of_standard Quote = std_quote
name_of_standard Comment = std_comment
name_of_standard String = std_string
name_of_standard Out = std_out
name_of_standard Char = std_char
name_of_standard Function = std_function
name_of_standard Vector = std_vector
name_of_standard Uninterned = std_uninterned
name_of_standard Block = std_block
name_of_standard Binary = std_binary
name_of_standard Octal = std_octal
name_of_standard Hex = std_hex
name_of_standard Radix = std_radix

-- those of macro characters
abbrev pub macro_kinds : List Standard
macro_kinds = AList ∷ Close ∷ Quote ∷ Comment ∷ String ∷ Out ∷ []

-- those of sub-characters
abbrev pub dispatch_kinds : List Standard
dispatch_kinds = Char ∷ Function ∷ Vector ∷ Uninterned ∷ Block ∷ Binary ∷ Octal ∷ Hex ∷ Radix ∷ []

-- all standard functions
abbrev pub kinds : List Standard
kinds = macro_kinds ++ dispatch_kinds

-- the first of this name
abbrev pub kind_among : List Standard → List ℕ → Option Standard
kind_among [] name = None
kind_among (k ∷ ks) name = if same_name (name_of_standard k) name then Some k else kind_among ks name

-- what each of them gathers
abbrev pub way_of_standard : Standard → StdGather
way_of_standard AList = ByList
way_of_standard Close = Nothing
way_of_standard Quote = One
way_of_standard Comment = Line
way_of_standard String = Text
way_of_standard Out = Nothing
way_of_standard Char = EscapedToken
way_of_standard Function = One
way_of_standard Vector = Many
way_of_standard Uninterned = Token
way_of_standard Block = ByBlock
way_of_standard Binary = Token
way_of_standard Octal = Token
way_of_standard Hex = Token
way_of_standard Radix = Token

-- the number of a call as a base, from 2 to 36
abbrev pub radix_of : Option ℕ → Option ℕ
radix_of None = None
radix_of (Some base) = if nat_le 2 base && nat_le base 36 then Some base else None
