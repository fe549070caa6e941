-- How symbols, and external ones, are found by their names: for each name the last that has it, and for each of them the one
-- before it.
-- A place is kept as one more than it, and 0 for none.
use Rattle.std.specs.Prelude.{◌≡◌, ◌<◌, ℕ, zero, suc, nat_eq, if◌then◌else◌, List, length, get_or}
use Rattle.package_sets.specs.declared.chains.Chains.{Chains}
use Rattle.package_sets.specs.KeptSets.{pair_at}

-- the number of the name of the external symbol at the place x
abbrev pub external_name : List (ℕ × ℕ) → List (ℕ × ℕ) → ℕ → ℕ
external_name symbols externals x = (pair_at symbols (pair_at externals x).1).1

-- the second number of the pair at the place x: of a symbol, the number of its name
abbrev pub second_of : List (ℕ × ℕ) → ℕ → ℕ
second_of pairs x = (pair_at pairs x).1

-- one more than the last place below n that has the name j
unfoldable pub last_below : (ℕ → ℕ) → ℕ → ℕ → ℕ
last_below names j zero = 0
last_below names j (suc n) = if nat_eq (names n) j then suc n else last_below names j n

-- for each name the last of the first n places that has it, and for each of these the one before it
pub record AreChainsOfNames (names : ℕ → ℕ) (n : ℕ) (c : Chains) : Type 0 where
  pub lasts : (j : ℕ) → get_or c.lasts.items j 0 ≡ last_below names j n
  pub as_many : length c.befores.items ≡ n
  pub befores : (x : ℕ) → x < n → get_or c.befores.items x 0 ≡ last_below names (names x) x
