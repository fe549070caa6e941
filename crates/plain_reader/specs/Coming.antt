-- How reading goes on at the front of a text, whatever follows the text.
use Rattle.std.specs.Prelude.{ℕ, ◌≡◌, ◌≤◌, ◌+◌, ◌-◌, List, ◌++◌, length}
use Rattle.lisp_reading.specs.Plans.{Plan, run}
use Rattle.lisp_reading.specs.Setting.{Setting}

-- Within the limit of the text, reading the text by one plan is reading the rest of it by the other, from the offset where the
-- rest begins, whatever follows.
pub record ReadsOnAs {A : Type 0} (setting : Setting) (plan : Plan A) (text : List ℕ) (next : Plan A) (rest : List ℕ) : Type 0 where
  pub within : length rest ≤ length text
  pub goes : (at : ℕ) (more : List ℕ) → at + length text ≤ setting.limits.text
      → run setting.table setting.limits plan at (text ++ more)
      ≡ run setting.table setting.limits next (at + (length text - length rest)) (rest ++ more)
