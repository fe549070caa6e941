-- Where the attempt at an object begins that decides what a text begins with: what is before it came to nothing, attempt by attempt.
use Rattle.std.specs.Prelude.{ℕ, zero, suc, ◌+◌, List, length, Ok}
use Rattle.lisp_reading.specs.declared.attempt.Found.{Found}
use Rattle.lisp_reading.specs.declared.attempt.Found.TheVariants.{Nothing as nothing}
use Rattle.lisp_reading.specs.Plans.{Read, run}
use Rattle.lisp_reading.specs.Setting.{Setting}
use Rattle.lisp_reading.specs.Reading.{attempt}

-- of an attempt that began at start; after discarded text a new one begins
abbrev pub deciding : ℕ → (ℕ → List ℕ → ℕ) → Read Found → ℕ
deciding start more (Ok (nothing token, at, cs)) = more (start + at) cs
deciding start more _ = start

-- of the text from this offset on; the number bounds the turns, as in what is read
unfoldable pub decided_in : Setting → ℕ → ℕ → List ℕ → ℕ
decided_in setting zero start text = start
decided_in setting (suc n) start text =
    deciding start (λ next cs. decided_in setting n next cs) (run setting.table setting.limits (attempt setting setting.limits.nesting) 0 text)

-- each turn takes a byte or is the last one, so the length of the text is always enough
abbrev pub decided_at : Setting → ℕ → List ℕ → ℕ
decided_at setting start text = decided_in setting (length text + 1) start text

-- The start of a form; of a refused text, of what is refused; of an empty one its end.
unfoldable pub decided_from : Setting → List ℕ → ℕ
decided_from setting text = decided_at setting 0 text
