-- Texts that are written without escapes.
use Rattle.std.specs.Prelude.{ℕ, ◌≡◌, ◌<◌, ◌==◌, ◌&&◌, not, nat_lt, Bool, true, false, List, [], ◌∷◌, length, take, drop}
use Rattle.std.specs.List.{list_all}
use Rattle.readtable_core.specs.Tables.{Table, entry_at}
use Rattle.lisp_reading.specs.Gathering.{is_escape}

-- a character that is no escape
abbrev pub is_letter : Table → ℕ → Bool
is_letter table c = nat_lt c 128 && not (is_escape (entry_at table c).syntax)

-- at the double quote
abbrev pub begins_with_quote : List ℕ → Bool
begins_with_quote [] = false
begins_with_quote (c ∷ cs) = c == 34

-- so many characters that are no escape and no double quote are at the front of the text, and a double quote comes next
pub record IsText (table : Table) (text : List ℕ) (count : ℕ) : Type 0 where
  pub within : count < length text
  pub letters : list_all (is_letter table) (take count text) ≡ true
  pub inside : list_all (λ c. not (c == 34)) (take count text) ≡ true
  pub ends : begins_with_quote (drop count text) ≡ true
