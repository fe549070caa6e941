-- Discarded text (standard 2.2, 2.4): whitespace, and calls that give no object.
use Rattle.std.specs.Prelude.{◌≡◌, ℕ, Bool, List, [], Ok}
use Rattle.lisp_reading.specs.declared.attempt.Found.TheVariants.{Nothing as nothing_found}
use Rattle.lisp_reading.specs.Plans.{run}
use Rattle.lisp_reading.specs.Setting.{Setting}
use Rattle.lisp_reading.specs.Reading.{attempt}

-- No text, or what an attempt takes and gives no object for, and discarded text after it.
pub data IsDiscardedText (setting : Setting) : List ℕ → Type 0 where
  nothing : IsDiscardedText setting []
  more : (text rest : List ℕ) (token : Bool) (at : ℕ)
      → run setting.table setting.limits (attempt setting setting.limits.nesting) 0 text ≡ Ok (nothing_found token, at, rest)
      → IsDiscardedText setting rest → IsDiscardedText setting text
