-- How symbols are numbered: one number for one symbol, for as long as there is the symbol.
use Rattle.std.specs.Prelude.{◌≡◌, ◌<◌, ℕ, Some}
use Rattle.package_table.specs.Table.{Name, IsPresent, AreSoundPackages, symbol_count}
use Rattle.package_table.specs.Numbers.{Numbered, number_at}

-- Each symbol has a number below the count, and two symbols have two.
pub record AreSymbolsNumbered (s : Numbered) (count : ℕ) : Type 0 where
  pub below : (h n : Name) → IsPresent s.0 h n h → (i : ℕ) × (number_at s.1 h n ≡ Some i) × (i < count)
  pub apart : (h n g m : Name) (i : ℕ) → IsPresent s.0 h n h → IsPresent s.0 g m g → number_at s.1 h n ≡ Some i → number_at s.1 g m ≡ Some i → (h ≡ g) × (n ≡ m)

-- sound packages, whose symbols have numbers below how many there are
abbrev pub IsNumberedSound : Numbered → Type 0
IsNumberedSound s = AreSoundPackages s.0 × AreSymbolsNumbered s (symbol_count s.0)

-- Each symbol that was there keeps its number.
abbrev pub KeepsNumbers : Numbered → Numbered → Type 0
KeepsNumbers s u = (h n : Name) → IsPresent s.0 h n h → number_at u.1 h n ≡ number_at s.1 h n
