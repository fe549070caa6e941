-- Macro functions that are kept in the world, and the macro functions that are in force.
use Rattle.std.specs.Prelude.{ℕ, ◌==◌, Bool, true, false, ◌&&◌, ◌||◌, nat_le, nat_eq, not, if◌then◌else◌, List, [], ◌∷◌, ◌++◌, take, length, Option, Some, None, option_and_then, is_some, filter, bytes_eq, codes, Ok, Err, pos}
use Rattle.std.specs.List.{starts_with}
use Rattle.std.specs.Option.{option_map_or}
use Rattle.lisp_object.specs.Object.{Object, integer, character, text, symbol, pair, nil, list_of}
use Rattle.lisp_object.specs.declared.refusal.TheConstants.{ARGUMENT_KIND}
use Rattle.readtable_core.specs.Names.{is_among, is_function_name}
use Rattle.package_table.specs.Table.{Name, keyword}
use Rattle.package_table.specs.Readers.{own_names}
use Rattle.plist_state.specs.Properties.{Symbol}
use Rattle.plist_state.specs.State.{WorldState}
use Rattle.plist_state.specs.Changes.{property}
use Rattle.user_macros.specs.declared.call.Gather.{Gather}
use Rattle.user_macros.specs.declared.call.Gather.TheVariants.{Nothing, Next, Until, Text, TextSame, Line, Token}
use Rattle.user_macros.specs.Calls.{Material, nothing, one, many, text as letters, MacroCall, MacroAnswer, value, no_value, refused}
use Rattle.user_macros.specs.Functions.{Functions}
use Rattle.lisp_operators.specs.Evaluation.{Evaluation, of_kind}
use Rattle.lisp_operators.specs.ArgumentKinds.{a_keyword, a_character}
use Rattle.value_functions.specs.Sequences.{items_of}
use Rattle.evaluator.specs.Operators.{pazturrok}
use Rattle.kept_functions.specs.Definitions.{Definition, definition_among, kept_beside}

-- the names of the functions of the world: no program registers one of these
abbrev pub is_lisp_name : Name → Bool
is_lisp_name name = is_function_name name && starts_with nat_eq name (codes "LISP-")

-- the way in which it gathers, and what it does with what was gathered
pub record ReaderDefinition : Type 0 where
  pub way : Gather
  pub definition : Definition

-- a way by its name, and one that ends at a character
abbrev pub way_named : Name → Option Gather
way_named name =
    if bytes_eq name (codes "NOTHING") then Some Nothing
    else (if bytes_eq name (codes "NEXT") then Some Next
    else (if bytes_eq name (codes "TEXT-SAME") then Some TextSame
    else (if bytes_eq name (codes "LINE") then Some Line
    else (if bytes_eq name (codes "TOKEN") then Some Token
    else None))))

-- the ways of gathering that end at a character
abbrev pub way_up_to : Name → ℕ → Option Gather
way_up_to name c =
    if bytes_eq name (codes "UNTIL") then Some (Until c)
    else (if bytes_eq name (codes "TEXT") then Some (Text c) else None)

-- :NEXT, or (:UNTIL #\})
abbrev pub way_by_items : List Object → Option Gather
way_by_items (x ∷ y ∷ []) = option_and_then (λ c. option_and_then (λ n. way_up_to n c) (a_keyword x)) (a_character y)
way_by_items _ = None

-- the way of gathering that an object writes
abbrev pub way_written : Object → Option Gather
way_written (symbol home name) = option_and_then way_named (a_keyword (symbol home name))
way_written x = option_and_then way_by_items (items_of x)

-- the object gathered, the macro character, the character behind it and the number: as many of them as there are variables
abbrev pub takes_call : Definition → Bool
takes_call definition = nat_le (length definition.variables) 4

-- a way and a definition, where both are there
abbrev pub reader_with : Option Gather → Option Definition → Option ReaderDefinition
reader_with (Some way) (Some definition) =
    if takes_call definition then Some (record { way = way; definition = definition }) else None
reader_with _ _ = None

-- (way (variable ..) form ..), by its items
abbrev pub reader_function_of_items : List Object → Option ReaderDefinition
reader_function_of_items (way ∷ definition) = reader_with (way_written way) (definition_among definition)
reader_function_of_items [] = None

-- the definition of a macro function that a list is
abbrev pub reader_definition_of : Object → Option ReaderDefinition
reader_definition_of x = option_and_then reader_function_of_items (items_of x)

-- under which property the world keeps it
abbrev pub reader_indicator : Symbol
reader_indicator = (pazturrok, codes "READER-DEFINITION")

-- the macro function of a name in the world
abbrev pub reader_function_in : WorldState → Name → Option ReaderDefinition
reader_function_in s name = if is_lisp_name name then option_and_then reader_definition_of (property s (keyword, name) reader_indicator) else None

-- ---- DEFINE-READER, of its arguments as they are written: the name

-- the name of a macro function of the world, if the object is one
abbrev pub own_reader_name : Object → Option Name
own_reader_name x = option_and_then (λ name. if is_lisp_name name then Some name else None) (a_keyword x)

-- what DEFINE-READER gives: the definition is kept under its name
abbrev pub reader_defined : Object → WorldState → Evaluation Object
reader_defined (pair name definition) s =
    of_kind (own_reader_name name) (λ _. of_kind (reader_definition_of definition) (λ _. kept_beside reader_indicator name definition s))
reader_defined _ s = Err ARGUMENT_KIND

-- the names of the macro functions of the world, in the order of their bytes
abbrev pub own_readers : WorldState → List Name
own_readers s = filter (λ n. is_some (reader_function_in s n)) (own_names s.packages keyword)

-- the names that SET-MACRO-CHARACTER and its like take in a state, where these are those of the program
abbrev pub names_in_force : List Name → WorldState → List Name
names_in_force names s = names ++ own_readers s

-- ---- a call
-- what was gathered, as an object
abbrev pub material_object : Material → Object
material_object nothing = nil
material_object (one x) = x
material_object (many xs) = list_of xs
material_object (letters cs) = text cs

-- what a call of a macro function hands to the definition
abbrev pub values_of_call : MacroCall → List Object
values_of_call call =
    material_object call.gathered ∷ character call.character ∷ option_map_or character call.sub nil ∷ option_map_or (λ n. integer (pos n)) call.number nil ∷ []

-- of what a call hands to the definition, as many values from the front as it has variables
abbrev pub first_values : Definition → MacroCall → List Object
first_values definition call = take (length definition.variables) (values_of_call call)
