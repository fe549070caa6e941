-- The text of an object of a snapshot, and the rows of its second object.
use Rattle.std.specs.Prelude.{ℕ, List, ◌++◌, codes}
use Rattle.lisp_object.specs.Object.{Object}
use Rattle.package_table.specs.Table.{Table, common_lisp_user}
use Rattle.canon_printer.specs.Printed.{printed}
use Rattle.plist_state.specs.Properties.{Symbol}
use Rattle.plist_state.specs.State.{WorldState}
use Rattle.plist_state.specs.Changes.{plist}
use Rattle.world_text.specs.Snapshot.{plist_object}

-- the text of an object: it is printed in COMMON-LISP-USER
abbrev pub object_text : Table → Object → List ℕ
object_text packages x = printed packages common_lisp_user x

-- the text of an object that is not the first of its line, after a space
abbrev pub later_text : Table → Object → List ℕ
later_text packages x = codes " " ++ object_text packages x

-- the row of a symbol
abbrev pub row_of : WorldState → Symbol → Object
row_of s x = plist_object x (plist s x)
