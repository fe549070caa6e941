-- The modes of forms, and the bytes that stand for them in records.
use Rattle.std.specs.Prelude.{ℕ, ◌==◌, if◌then◌else◌}
use Rattle.session_words.specs.declared.mode.Mode.{Mode}
use Rattle.session_words.specs.declared.mode.Mode.TheVariants.{Current, Rescue}

-- the byte that says in which mode a record is read
abbrev pub kind_of : Mode → ℕ
kind_of Current = 0
kind_of Rescue = 1

-- the mode that a record of this kind was read in
abbrev pub mode_of : ℕ → Mode
mode_of kind = if kind == 0 then Current else Rescue
