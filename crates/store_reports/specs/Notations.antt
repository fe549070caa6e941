-- A name and a number, as figures are written.
use Rattle.std.specs.Prelude.{ℕ, List, [], ◌∷◌, ◌++◌, codes, decimal, Option, None, Some}
use Rattle.store_reports.specs.Json.{json_number}
use Rattle.store_reports.specs.declared.numbers.Notation.{Notation}
use Rattle.store_reports.specs.declared.numbers.Notation.TheVariants.{Json, Lines}

-- a name and a number: a line, or a member of an object that is not its first one
abbrev pub figure : Notation → List ℕ → ℕ → List ℕ
figure Lines name value = name ++ 32 ∷ decimal value ++ 10 ∷ []
figure Json name value = codes ",\"" ++ name ++ codes "\":" ++ json_number value

-- nothing where it is not known
abbrev pub known_figure : Notation → List ℕ → Option ℕ → List ℕ
known_figure notation name None = []
known_figure notation name (Some value) = figure notation name value
