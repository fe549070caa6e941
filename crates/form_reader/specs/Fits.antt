-- Which data fit, their size aside: those that a function of a user may answer.
use Rattle.std.specs.Prelude.{ℕ, ◌≡◌, ◌≤◌, true, false, Option, Some, None}
use Rattle.lisp_object.specs.declared.datum.Datum.{Datum}
use Rattle.lisp_object.specs.Datum.{object_of, is_proper, is_list, depth, size}
use Rattle.package_table.specs.Table.{Table as Packages}
use Rattle.lisp_reading.specs.Answering.{are_known}

-- it is proper, no deeper than the room, and each symbol in it may be answered
pub record Fits (packages : Packages) (room : ℕ) (d : Datum) : Type 0 where
  pub proper : is_proper d ≡ true
  pub deep : depth d ≤ room
  pub known : are_known packages (object_of d) ≡ true

-- the tail of a list, which is no list
abbrev pub FitsEnd : Packages → ℕ → Option Datum → Type 0
FitsEnd packages room None = Unit {0}
FitsEnd packages room (Some d) = Fits packages room d × (is_list d ≡ false)

-- how large the end of a list is
abbrev pub end_size : Option Datum → ℕ
end_size None = 0
end_size (Some d) = size d
