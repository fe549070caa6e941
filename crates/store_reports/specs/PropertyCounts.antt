-- How many properties are shown, and of how many symbols.
use Rattle.std.specs.Prelude.{◌≡◌, ◌≢◌, ℕ, Bool, true, false, ◌&&◌, if◌then◌else◌, min, List, [], ◌∷◌, ◌++◌, codes, decimal, is_some}
use Rattle.std.specs.Borrow.{Bor}
use Rattle.std.specs.List.{count_by, sum_by}
use Rattle.std.specs.Option.{option_map_or}
use Rattle.package_table.specs.Readers.{own_names, package_names}
use Rattle.package_table.specs.Table.{Name}
use Rattle.plist_state.specs.Changes.{plist}
use Rattle.plist_state.specs.Properties.{Symbol}
use Rattle.plist_state.specs.Readers.{symbols_with_properties}
use Rattle.plist_state.specs.State.{WorldState}
use Rattle.store_reports.specs.Figures.{told_number}
use Rattle.store_reports.specs.Json.{number_member}
use Rattle.store_reports.specs.ShownProperties.{has_wanted, is_asked, is_wanted_name, printed_in_user_package, takes_symbol}
use Rattle.store_reports.specs.declared.numbers.Notation.{Notation}
use Rattle.store_reports.specs.declared.numbers.Notation.TheVariants.{Json, Lines}
use Rattle.store_reports.specs.declared.selection.Selection.{Selection}
use Rattle.store_reports.specs.declared.showing.ShowError.{ShowError}
use Rattle.store_reports.specs.declared.showing.ShowError.TheVariants as showing

-- the sum of a number of each symbol that is at home in a package
unfoldable pub sum_at_home : WorldState → (Symbol → ℕ) → Name → ℕ
sum_at_home world f home = sum_by (λ name. f (home, name)) (own_names world.packages home)

-- the sum of a number of each symbol of a world
abbrev pub sum_at_homes : WorldState → (Symbol → ℕ) → ℕ
sum_at_homes world f = sum_by (sum_at_home world f) (package_names world.packages)

module _ (wanted : Selection) (world : WorldState) where
  -- how many properties of a symbol are asked for
  unfoldable pub taken_properties : Symbol → ℕ
  taken_properties x = if takes_symbol wanted x then count_by (λ p. is_wanted_name wanted.indicator p.0.1) (plist world x) else 0

  -- a symbol is asked for, and by this text
  unfoldable pub is_printed_so : List ℕ → Symbol → Bool
  is_printed_so text x = takes_symbol wanted x && is_asked wanted text (printed_in_user_package world.packages x) x.1

  -- how many properties of a symbol are asked for, if it is asked for by this text; else 0
  unfoldable pub printed_properties : List ℕ → Symbol → ℕ
  printed_properties text x = if is_printed_so text x then taken_properties x else 0

  -- 1, if the symbol is asked for by this text; else 0
  unfoldable pub printed_symbols : List ℕ → Symbol → ℕ
  printed_symbols text x = if is_printed_so text x then 1 else 0

  -- How many properties are shown: those of the symbol that is asked for by its text, or those of all symbols.
  abbrev pub shown_properties : ℕ
  shown_properties =
      option_map_or (λ (text : Bor (List ℕ)). sum_at_homes world (printed_properties text.now)) wanted.symbol
      (sum_by taken_properties (symbols_with_properties world))

  -- Of how many symbols properties are shown: that which is asked for by its text, also without properties, or those with a
  -- property that is shown.
  abbrev pub shown_symbols : ℕ
  shown_symbols =
      option_map_or (λ (text : Bor (List ℕ)). sum_at_homes world (printed_symbols text.now)) wanted.symbol
      (sum_by (λ x. min (taken_properties x) 1) (symbols_with_properties world))

-- the two numbers, as a line or as an object
abbrev pub count_text : Notation → ℕ → ℕ → List ℕ
count_text Lines properties symbols = codes "properties " ++ decimal properties ++ codes " symbols " ++ decimal symbols ++ 10 ∷ []
count_text Json properties symbols =
    123 ∷ [] ++ number_member (codes "properties") properties ++ 44 ∷ [] ++ number_member (codes "symbols") symbols ++ 125 ∷ 10 ∷ []

-- what is asked for is counted; of a symbol or an indicator that is asked for there is something
pub record IsCountText (wanted : Selection) (world : WorldState) (notation : Notation) (text : List ℕ) : Type 0 where
  pub there : has_wanted wanted world ≡ true
  pub is : text ≡ count_text notation (told_number (shown_properties wanted world)) (told_number (shown_symbols wanted world))
  pub symbol : is_some wanted.symbol ≡ true → shown_symbols wanted world ≢ 0
  pub indicator : is_some wanted.indicator ≡ true → shown_symbols wanted world ≢ 0

-- why nothing is counted: as nothing is shown
abbrev pub IsNoCount : Selection → WorldState → ShowError → Type 0
IsNoCount wanted world showing.OutOfMemory = Unit {0}
IsNoCount wanted world showing.NoPackage = has_wanted wanted world ≡ false
IsNoCount wanted world showing.NoSymbol = (has_wanted wanted world ≡ true) × (is_some wanted.symbol ≡ true) × (shown_symbols wanted world ≡ 0)
IsNoCount wanted world showing.NoIndicator =
    (has_wanted wanted world ≡ true) × (is_some wanted.symbol ≡ false) × (is_some wanted.indicator ≡ true) × (shown_symbols wanted world ≡ 0)
