-- The lines of a snapshot, as they are read.
use Rattle.std.specs.Prelude.{◌≡◌, ℕ, List, ◌++◌, length}
use Rattle.lisp_object.specs.Object.{Object}
use Rattle.package_table.specs.Table.{Table, common_lisp_user}
use Rattle.canon_printer.specs.Printed.{printed}
use Rattle.lisp_reading.specs.declared.limits.Limits.{Limits}
use Rattle.lisp_reading.specs.Setting.{Setting}
use Rattle.lisp_reading.specs.Reading.{form, reads}
use Rattle.world_text.specs.Snapshot.{snapshot_line}

-- the limits under which a snapshot is read
abbrev pub snapshot_limits : Limits
snapshot_limits = record { text = 4294967295; token = 8192; nesting = 104 }

-- A text begins with the line of an object that is printed with these packages: the object is read, from the first byte up to
-- the newline.
abbrev pub IsLineRead : Setting → Table → Object → List ℕ → Type 0
IsLineRead setting packages x rest =
    (next : ℕ) × (reads setting (snapshot_line packages x ++ rest) ≡ form x 0 (length (printed packages common_lisp_user x)) next)
