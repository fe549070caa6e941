-- What is kept by numbers means these packages by names. A number is the position of a name, a package or a symbol in its list.
use Rattle.std.specs.Prelude.{◌+◌, ℕ, Bool, false, not, ◌||◌, nat_lt, bytes_eq, is_some, List, [], ◌∷◌, position, if◌then◌else◌, Option, Some, None, option_map, option_and_then}
use Rattle.std.specs.Option.{option_or, option_map_or}
use Rattle.std.specs.List.{cons_option}
use Rattle.std.specs.FinMap as finite
use Rattle.package_sets.specs.KeptSets.{Kept, import_of, name_at, pair_at, pair_eq, positions_of}
use Rattle.package_table.specs.Table.{Name, name_cmp, Present, Package, Table}
use Rattle.package_table.specs.Numbers.{Numbers, Numbered}

-- the names at whose positions f gives something, each with what it gives
unfoldable pub entries_by_position : {X : Type 0} → List Name → (ℕ → Option X) → List (Name × X)
entries_by_position [] f = []
entries_by_position (n ∷ ns) f = cons_option (option_map (λ x. (n, x)) (f 0)) (entries_by_position ns (λ i. f (1 + i)))

-- what a function gives for each position, by the name that stands there
unfoldable pub map_by : {X : Type 0} → List Name → (ℕ → Option X) → finite.FinMap name_cmp X
map_by ns f = finite.from_entries (entries_by_position ns f)

module _ (k : Kept) where
  -- the number of the symbol that is at home in the package p by the name j, and else of the one that p imports by it
  abbrev pub number_in : ℕ → ℕ → Option ℕ
  number_in p j = option_or (position (pair_eq (p, j)) k.symbols) (import_of k p j)

  -- COMMON-LISP and KEYWORD are the packages 0 and 1: what is present there is external there.
  abbrev pub is_shown_in : ℕ → ℕ → Bool
  is_shown_in p i = nat_lt p 2 || is_some (position (pair_eq (p, i)) k.externals)

  -- the symbol i, as it is present in p
  abbrev pub present_in : ℕ → ℕ → Present
  present_in p i = record { home = name_at k.packages (pair_at k.symbols i).0; external = is_shown_in p i }

  -- the name of the home of the symbol i
  abbrev pub home_in : ℕ → Name
  home_in i = name_at k.packages (pair_at k.symbols i).0

  -- the number of the symbol that is external in q by the name j, and the first of those of these uses
  abbrev pub shown_number : ℕ → ℕ → Option ℕ
  shown_number q j = option_and_then (λ i. if is_shown_in q i then Some i else None) (number_in q j)

  unfoldable pub first_shown : ℕ → List ℕ → Option ℕ
  first_shown j [] = None
  first_shown j (x ∷ xs) = option_or (shown_number (pair_at k.uses x).1 j) (first_shown j xs)

  -- the number of the symbol that p finds by the name j
  abbrev pub found_number : ℕ → ℕ → Option ℕ
  found_number p j = option_or (number_in p j) (first_shown j (positions_of p k.uses))

  -- the name of the symbol i
  abbrev pub symbol_name : ℕ → Name
  symbol_name i = name_at k.names (pair_at k.symbols i).1

  -- where the external symbols of q are, and the symbol of such a place: of the packages 0 and 1 these are the symbols at home
  abbrev pub shown_positions : ℕ → List ℕ
  shown_positions q = if nat_lt q 2 then positions_of q k.symbols else positions_of q k.externals

  abbrev pub shown_symbol : ℕ → ℕ → ℕ
  shown_symbol q x = if nat_lt q 2 then x else (pair_at k.externals x).1

  -- p finds another symbol by the name of the symbol i
  abbrev pub finds_another : ℕ → ℕ → Bool
  finds_another p i = option_map_or (λ o. not (bytes_eq (home_in o) (home_in i))) (found_number p (pair_at k.symbols i).1) false

  -- what the package p has, and the numbers of its symbols
  abbrev pub package_of_number : ℕ → Package
  package_of_number p = record {
    symbols = map_by k.names (λ j. option_map (present_in p) (number_in p j));
    uses = map_by k.packages (λ q. option_map (λ _. tt) (position (pair_eq (p, q)) k.uses));
  }

  abbrev pub numbers_in : ℕ → finite.FinMap name_cmp ℕ
  numbers_in p = map_by k.names (number_in p)

  abbrev pub table_of : Table
  table_of = map_by k.packages (λ p. Some (package_of_number p))

  abbrev pub all_numbers_of : Numbers
  all_numbers_of = map_by k.packages (λ p. Some (numbers_in p))

-- the packages, and the numbers of their symbols
unfoldable pub numbered_of : Kept → Numbered
numbered_of k = (table_of k, all_numbers_of k)
