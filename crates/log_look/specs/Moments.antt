-- Two files in memory, moment by moment.
use Rattle.std.specs.Prelude.{◌≡◌, ℕ, ◌-◌, ◌≤◌, min, true, List, [], length, slice_get, Option, None, Some}
use Rattle.disk_trait.specs.Disk.{Image, file_of}
use Rattle.disk_trait.specs.declared.half.Half.{Half}
use Rattle.log_look.specs.Live.{Watch}
use Rattle.log_look.specs.declared.moments.Moment.{Moment}
use Rattle.log_look.specs.declared.moments.MomentFiles.{MomentFiles}

-- what both files hold at one moment
abbrev pub image_in : Moment → Image
image_in m = record { a = m.a.items; b = m.b.items }

-- the files at this moment; empty where there is none
abbrev pub image_or_none : Option Moment → Image
image_or_none None = record { a = []; b = [] }
image_or_none (Some m) = image_in m

-- the files at a moment, or at the last one
abbrev pub image_at : List Moment → ℕ → Image
image_at moments t = image_or_none (slice_get moments (min t (length moments - 1)))

-- the moment that comes next
abbrev pub next_of : MomentFiles → ℕ
next_of files = files.next

-- files of which each moment is known
abbrev pub watch_of : MomentFiles → Watch
watch_of files = record { honest = true; files = λ t. image_at files.moments.items t; now = files.next }

-- what a file holds at the next moment
abbrev pub file_then : Half → MomentFiles → List ℕ
file_then half files = file_of half (image_at files.moments.items files.next)

-- time has gone on, and nothing else
pub record IsLaterOf (old new : MomentFiles) : Type 0 where
  pub moments : new.moments ≡ old.moments
  pub later : old.next ≤ new.next
