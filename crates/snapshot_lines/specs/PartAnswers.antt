-- What a call answers that makes a part of a world, or reads a part of data.
use Rattle.std.specs.Prelude.{◌≡◌, MatchResult, Result}
use Rattle.snapshot_lines.specs.declared.error.BuildError.{BuildError}
use Rattle.snapshot_lines.specs.declared.error.BuildError.TheVariants.{OutOfMemory}

-- this holds, if the call gave something; and else memory ran out
abbrev pub OrNoMemory : {A : Type 0} → Type 0 → Result A BuildError → Type 0
OrNoMemory P result = MatchResult result (λ _. P) (λ e. e ≡ OutOfMemory)

-- this holds of what the call made; or it made nothing, as memory ran out
abbrev pub IsOfMade : {A : Type 0} → Result A BuildError → (A → Type 0) → Type 0
IsOfMade result P = MatchResult result P (λ e. e ≡ OutOfMemory)

-- the call gave something, of which this holds: it has no error
abbrev pub SucceedsWith : {A E : Type 0} → Result A E → (A → Type 0) → Type 0
SucceedsWith result P = MatchResult result P (λ _. ⊥)
