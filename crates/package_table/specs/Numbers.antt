-- The numbers of symbols. They are beside the table and no part of it: packages with the same symbols are equal, whatever
-- their numbers.
use Rattle.std.specs.Prelude.{◌≡◌, ℕ, ◌++◌, List, [], ◌∷◌, Option, None, Some, option_and_then, if◌then◌else◌, refl}
use Rattle.std.specs.Option.{option_map_or}
use Rattle.std.specs.Borrow.{Bor}
use Rattle.std.specs.Coded.{Coded, code_by, coded×, coded_list, coded_ℕ}
use Rattle.std.specs.FinMap as finite
use Rattle.package_table.specs.Table.{Name, name_cmp, name_code, Present, Table, table_code, with_entry, with_used, with_new_package}
use Rattle.package_table.specs.Lookup.{home_by_name, is_symbol}

-- for each package, the number of the symbol that is present by each name
abbrev pub Numbers : Type 0
Numbers = finite.FinMap name_cmp (finite.FinMap name_cmp ℕ)

-- a table, and the numbers of its symbols
abbrev pub Numbered : Type 0
Numbered = Table × Numbers

abbrev pub numbers_code : Coded Numbers
numbers_code = finite.code name_code (finite.code name_code coded_ℕ)

-- a table and its numbers are told apart by both
abbrev pub numbered_code : Coded Numbered
numbered_code = coded× table_code numbers_code

-- what the packages have beside their table: the numbers of its symbols, and the tables that were marked, to which they can
-- go back, with the numbers that their symbols had
pub record Beside : Type 0 where
  pub numbers : Numbers
  pub marked : List Numbered

abbrev pub beside_code : Coded Beside
beside_code =
    code_by (Numbers × List Numbered) (coded× numbers_code (coded_list numbered_code)) (λ b. (b.numbers, b.marked))
    (λ p. record { numbers = p.0; marked = p.1 }) (λ _. refl)

-- the packages: the table now, and what is beside it
abbrev pub Tables : Type 0
Tables = Table × Beside

abbrev pub tables_code : Coded Tables
tables_code = coded× table_code beside_code

-- the table now, and the numbers of its symbols
abbrev pub table_now : Tables → Numbered
table_now ts = (ts.0, ts.1.numbers)

-- the packages with one mark more, the last, at which they are as now
abbrev pub with_mark : Tables → Tables
with_mark ts = (ts.0, record ts.1 { marked = ts.1.marked ++ table_now ts ∷ [] })

-- the packages with no marks
abbrev pub without_marks : Tables → Tables
without_marks ts = (ts.0, record ts.1 { marked = [] })

-- the number of the symbol that is present in p by the name n
abbrev pub number_at : Numbers → Name → Name → Option ℕ
number_at ns p n = option_and_then (λ m. finite.get m n) (finite.get ns p)

-- the numbers after a change of those of the package p, if there is one
abbrev pub with_numbers : Numbers → Name → (finite.FinMap name_cmp ℕ → finite.FinMap name_cmp ℕ) → Numbers
with_numbers ns p change = option_map_or (λ m. finite.insert ns p (change m)) (finite.get ns p) ns

-- the table where the entry e, of the symbol with the number i, is at the name n in p
abbrev pub with_numbered : Numbered → Name → Name → Present → ℕ → Numbered
with_numbered s p n e i = (with_entry s.0 p n e, with_numbers s.1 p (λ m. finite.insert m n i))

-- the table where p uses q
abbrev pub with_used_package : Numbered → Name → Name → Numbered
with_used_package s p q = (with_used s.0 p q, s.1)

-- the table with a new package, which has no symbols and uses nothing
abbrev pub with_package_made : Numbered → Name → Numbered
with_package_made s p = (with_new_package s.0 p, finite.insert s.1 p finite.empty)

-- the number of the symbol of this home and name, if there is one
abbrev pub number_of : Numbered → Name → Name → Option ℕ
number_of s h n = if is_symbol s.0 h n then number_at s.1 h n else None

-- the number of the symbol that p finds by the name n, and where that is at home
pub record IsFoundNumber (s : Numbered) (p n : Name) (i : ℕ) : Type 0 where
  pub home : Name
  pub finds : home_by_name s.0 p n ≡ Some home
  pub number : number_of s home n ≡ Some i

-- the home and the name of a symbol that is given by borrow
abbrev pub names_of_symbol : Bor Name × Bor Name → Name × Name
names_of_symbol s = (s.0.now, s.1.now)
