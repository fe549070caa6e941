-- Lines and columns of a text, and what an input keeps of what it gave.
use Rattle.std.specs.Prelude.{◌≡◌, ◌==◌, ◌+◌, ℕ, if◌then◌else◌, List, [], ◌∷◌, ◌++◌, Option, Some, length, IfSome}
use Rattle.diagnostics.specs.declared.places.GivenBytes.{GivenBytes}
use Rattle.diagnostics.specs.declared.places.Spot.{Spot}

-- The line after a text that begins on this line: each newline ends one.
abbrev pub line_from : ℕ → List ℕ → ℕ
line_from line [] = line
line_from line (byte ∷ bytes) = line_from (if byte == 10 then line + 1 else line) bytes

-- The column after a text that begins in this column: each byte takes one, and after a newline it is the first again.
abbrev pub column_from : ℕ → List ℕ → ℕ
column_from column [] = column
column_from column (byte ∷ bytes) = column_from (if byte == 10 then 1 else column + 1) bytes

-- the line and the column of what comes after a text, both counted from 1
abbrev pub line_at : List ℕ → ℕ
line_at text = line_from 1 text

-- the column that comes after a text without a newline
abbrev pub column_at : List ℕ → ℕ
column_at text = column_from 1 text

-- this place is after the text
pub record IsSpotAfter (spot : Spot) (text : List ℕ) : Type 0 where
  pub bytes : spot.bytes ≡ length text
  pub line : spot.line ≡ line_at text
  pub column : spot.column ≡ column_at text

-- The second place is behind this text, if the text begins at the first one.
pub record IsSpotBehind (spot : Spot) (text : List ℕ) (later : Spot) : Type 0 where
  pub bytes : later.bytes ≡ spot.bytes + length text
  pub line : later.line ≡ line_from spot.line text
  pub column : later.column ≡ column_from spot.column text

-- a place that is known, and behind it by this text the second one
abbrev pub IsMovedFrom : Option Spot → List ℕ → Spot → Type 0
IsMovedFrom before text later = (spot : Spot) × (before ≡ Some spot) × IsSpotBehind spot text later

-- These bytes were given: the last ones are kept, and it is known which place is before them. Nothing is said if that is lost.
abbrev pub KeepsIn : Option Spot → (older newer : List ℕ) → List ℕ → Type 0
KeepsIn before older newer bytes = IfSome before (λ spot. (early : List ℕ) × (bytes ≡ early ++ (older ++ newer)) × IsSpotAfter spot early)

-- the last of these bytes are kept, and it is known how many went before
abbrev pub GivenKeeps : GivenBytes → List ℕ → Type 0
GivenKeeps given bytes = KeepsIn given.before given.older.items given.newer.items bytes
