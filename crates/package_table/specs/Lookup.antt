-- The look-up of a name in a package, as a function. `Finds` of Table.antt says the same; if no package finds two
-- symbols by one name, the two agree (proofs/Found.antt).
use Rattle.std.specs.Prelude.{Bool, false, cond, is_some, bytes_eq, List, [], ◌∷◌, Option, Some, None}
use Rattle.std.specs.Option.{option_map_or}
use Rattle.std.specs.FinMap as finite
use Rattle.package_table.specs.Table.{Name, Table, entry_at}

-- the home of the symbol that is external in p by the name n
abbrev pub external_home : Table → Name → Name → Option Name
external_home t p n = option_map_or (λ e. cond e.external (Some e.home) None) (entry_at t p n) None

-- the first of these packages that has an external symbol by that name, and its home
abbrev pub first_external : Table → Name → List Name → Option Name
first_external t n [] = None
first_external t n (q ∷ qs) = option_map_or (λ h. Some h) (external_home t q n) (first_external t n qs)

-- the home of the symbol that p finds by the name n
abbrev pub home_by_name : Table → Name → Name → Option Name
home_by_name t p n =
    option_map_or (λ k. option_map_or (λ e. Some e.home) (finite.get k.symbols n) (first_external t n (finite.keys k.uses)))
    (finite.get t p) None

-- a symbol is present in p by the name n
abbrev pub is_present : Table → Name → Name → Bool
is_present t p n = is_some (entry_at t p n)

-- the package p has an external symbol by the name n
abbrev pub is_external : Table → Name → Name → Bool
is_external t p n = is_some (external_home t p n)

-- there is a symbol of home h and name n
abbrev pub is_symbol : Table → Name → Name → Bool
is_symbol t h n = option_map_or (λ e. bytes_eq e.home h) (entry_at t h n) false

-- p uses q
abbrev pub is_used : Table → Name → Name → Bool
is_used t p q = option_map_or (λ k. finite.contains_key k.uses q) (finite.get t p) false
