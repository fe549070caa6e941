-- The numbers of symbols, by their homes and names.
--     number_some      a symbol that is there has a number
--     number_there      what has a number is a symbol that is there
--     number_apart      two symbols with one number are one
--     number_kept      a symbol that was there, and is there, has the number that it had
--     number_none      no symbol, no number
--     at_symbol      the number of a symbol that is there
--     keeps_same, keeps_both      numbers stay where nothing changes, and over two changes
use Rattle.std.proofs.Common.{◌≡◌, ◌<◌, ℕ, true, false, cond, Bool, Option, None, Some, bytes_eq, refl, sym, ap, ◌∙◌}
use Rattle.std.proofs.lemmas.Bool.{false≢true}
use Rattle.std.specs.Option.{option_map, option_map_or}
use Rattle.package_table.specs.Table.{Name, Present, IsPresent, entry_at}
use Rattle.package_table.specs.Lookup.{is_symbol}
use Rattle.package_table.specs.Numbers.{Numbered, number_at, number_of}
use Rattle.package_table.specs.Numbering.{AreSymbolsNumbered, KeepsNumbers}
use Rattle.package_table.specs.Growth.{Grows}
use Rattle.package_table.proofs.Names.{same_some, none_some}
use Rattle.package_table.proofs.Frames.{equal_names, equal_itself}

symbol_there : (o : Option Present) (h : Name) → option_map (λ (e : Present). e.home) o ≡ Some h → option_map_or (λ (e : Present). bytes_eq e.home h) o false ≡ true
symbol_there None h none = absurd (none_some h none)
symbol_there (Some e) h home = ap (λ x. bytes_eq x h) (same_some e.home h home) ∙ equal_itself h

there_symbol : (o : Option Present) (h : Name) → option_map_or (λ (e : Present). bytes_eq e.home h) o false ≡ true → option_map (λ (e : Present). e.home) o ≡ Some h
there_symbol None h none = absurd (false≢true none)
there_symbol (Some e) h same = ap Some (equal_names e.home h same)

pub at_symbol : (s : Numbered) (h n : Name) → IsPresent s.0 h n h → number_of s h n ≡ number_at s.1 h n
at_symbol s h n there = ap (λ b. cond b (number_at s.1 h n) None) (symbol_there (entry_at s.0 h n) h there)

pub number_some : (s : Numbered) (count : ℕ) → AreSymbolsNumbered s count → (h n : Name) → IsPresent s.0 h n h → (i : ℕ) × (number_of s h n ≡ Some i) × (i < count)
number_some s count numbered h n there =
    let b = numbered.below h n there in
    (b.0, at_symbol s h n there ∙ b.1, b.2)

pub number_there : (s : Numbered) (h n : Name) (i : ℕ) → number_of s h n ≡ Some i → IsPresent s.0 h n h
number_there s h n i is = there_symbol (entry_at s.0 h n) h (chosen (is_symbol s.0 h n) (number_at s.1 h n) is)
  where
    chosen : (b : Bool) (o : Option ℕ) → cond b o None ≡ Some i → b ≡ true
    chosen true o some = refl
    chosen false o none = absurd (none_some i none)

pub number_apart : (s : Numbered) (count : ℕ) → AreSymbolsNumbered s count → (h n g m : Name) (i : ℕ) → number_of s h n ≡ Some i → number_of s g m ≡ Some i → (h ≡ g) × (n ≡ m)
number_apart s count numbered h n g m i a b =
    let here = number_there s h n i a in
    let there = number_there s g m i b in
    numbered.apart h n g m i here there (sym (at_symbol s h n here) ∙ a) (sym (at_symbol s g m there) ∙ b)

pub number_kept : (s u : Numbered) → KeepsNumbers s u → (h n : Name) → IsPresent s.0 h n h → IsPresent u.0 h n h → number_of u h n ≡ number_of s h n
number_kept s u keeps h n before after = at_symbol u h n after ∙ keeps h n before ∙ sym (at_symbol s h n before)

pub number_none : (s : Numbered) (h n : Name) → is_symbol s.0 h n ≡ false → number_of s h n ≡ None
number_none s h n none = ap (λ b. cond b (number_at s.1 h n) None) none

pub keeps_same : (s u : Numbered) → u ≡ s → KeepsNumbers s u
keeps_same s u same h n _ = ap (λ (s : Numbered). number_at s.1 h n) same

pub keeps_both : (s u v : Numbered) → Grows s.0 u.0 → KeepsNumbers s u → KeepsNumbers u v → KeepsNumbers s v
keeps_both s u v grows first then h n there = then h n (grows.homes h n h there) ∙ first h n there
