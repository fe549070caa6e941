-- The position: a property of the world, and the two forms of the store's own that take it out and put it in.
use Rattle.std.specs.Prelude.{ℕ, ◌^◌, nat_lt, pos, Bool, false, not, if◌then◌else◌, bytes_eq, List, ◌++◌, Option, None, Some, Result, Ok, Err, codes, decimal}
use Rattle.std.specs.Option.{option_and_then}
use Rattle.lisp_object.specs.Object.{Object, integer, symbol, pair, nil}
use Rattle.package_table.specs.Resolving.{Resolution, found_at, new_in, resolution}
use Rattle.package_table.specs.Table.{common_lisp, common_lisp_user}
use Rattle.package_table.specs.declared.error.PackageError.{PackageError}
use Rattle.plist_state.specs.Properties.{Symbol}
use Rattle.plist_state.specs.Changes.{property, with_property, without_property}
use Rattle.plist_state.specs.State.{WorldState}
use Rattle.messages.specs.declared.own.Own.{Own}
use Rattle.messages.specs.declared.own.Own.TheVariants.{Clearing, Position}

-- the symbol whose property of its own name the position is
abbrev pub position_symbol : Symbol
position_symbol = (common_lisp_user, codes "position")

-- the value of that property, if it is there
abbrev pub position_property : WorldState → Option Object
position_property world = property world position_symbol position_symbol

-- the number of 64 bits that an object is
abbrev pub number_of_object : Object → Option ℕ
number_of_object (integer (pos n)) = if nat_lt n (2 ^ 64) then Some n else None
number_of_object _ = None

-- the number of the last message, if the property is a number of 64 bits
abbrev pub position : WorldState → Option ℕ
position world = option_and_then number_of_object (position_property world)

-- whether a name in COMMON-LISP-USER stands for a symbol of another home, by what it stands for
abbrev pub is_of_another : Result Resolution PackageError → Bool
is_of_another (Ok (found_at home)) = not (bytes_eq home common_lisp_user)
is_of_another (Ok (new_in home)) = false
is_of_another (Err error) = false

-- whether the name of the position's symbol stands for another one
abbrev pub is_position_hidden : WorldState → Bool
is_position_hidden world = is_of_another (resolution world.packages common_lisp_user (codes "position"))

-- the world after the position was taken out
abbrev pub without_position : WorldState → WorldState
without_position world = without_property world position_symbol position_symbol

-- the world after the position was put in
abbrev pub with_position : ℕ → WorldState → WorldState
with_position n world = with_property world position_symbol position_symbol (integer (pos n))

-- ---- the store's own forms, which are read in Rescue

-- the texts of the store's own forms, as they stand in the log
abbrev pub own_text : Own → List ℕ
own_text Clearing = codes "(REMPROP '|position| '|position|)"
own_text (Position n) = codes "(SETF (GET '|position| '|position|) " ++ decimal n ++ codes ")"

-- the world after such a form
abbrev pub own_left : Own → WorldState → WorldState
own_left Clearing world = without_position world
own_left (Position n) world = with_position n world

-- what is read of them
abbrev pub quoted_position : Object
quoted_position = pair (symbol common_lisp (codes "QUOTE")) (pair (symbol common_lisp_user (codes "position")) nil)

-- the forms that these texts are
abbrev pub own_form : Own → Object
own_form Clearing = pair (symbol common_lisp (codes "REMPROP")) (pair quoted_position (pair quoted_position nil))
own_form (Position n) =
    pair (symbol common_lisp (codes "SETF"))
    (pair (pair (symbol common_lisp (codes "GET")) (pair quoted_position (pair quoted_position nil))) (pair (integer (pos n)) nil))
