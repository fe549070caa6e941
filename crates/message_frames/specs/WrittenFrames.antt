-- What was written.
use Rattle.std.specs.Prelude.{ℕ, ◌≡◌, List, ◌++◌}

-- something, or nothing, stands after what was there
abbrev pub Appends : List ℕ → List ℕ → Type 0
Appends old new = (bytes : List ℕ) × (new ≡ old ++ bytes)
