-- What each call adds to what is kept.
use Rattle.std.specs.Prelude.{ℕ, ◌++◌, List, [], ◌∷◌, position, bytes_eq, if◌then◌else◌, Option, option_and_then}
use Rattle.std.specs.List.{list_any, position_or_len}
use Rattle.package_sets.specs.KeptSets.{Kept, Name, pair_at, pair_eq}

-- the names with n, which is added if it is not there
abbrev pub with_name : List Name → Name → List Name
with_name ns n = if list_any (bytes_eq n) ns then ns else ns ++ n ∷ []

-- the number that n has then
abbrev pub number_among : List Name → Name → ℕ
number_among ns n = position_or_len (bytes_eq n) ns

-- the number of the symbol of the home h with the name n, if there is one
abbrev pub symbol_named : Kept → ℕ → Name → Option ℕ
symbol_named k h n =
    option_and_then (λ i. position (pair_eq (h, i)) k.symbols) (position (bytes_eq n) k.names)

-- what is kept with one package more
abbrev pub with_package : Kept → Name → Kept
with_package k n = record k { packages = k.packages ++ n ∷ [] }

-- with the symbol of the home h and the name n
abbrev pub with_symbol : Kept → ℕ → Name → Kept
with_symbol k h n = record k {
  names = with_name k.names n;
  symbols = k.symbols ++ (h, number_among k.names n) ∷ [];
}

-- where p imports the symbol of number s
abbrev pub with_import : Kept → ℕ → ℕ → Kept
with_import k p s = record k {
  imports = k.imports ++ (p, (pair_at k.symbols s).1) ∷ [];
  imported = k.imported ++ s ∷ [];
}

-- where the symbol of number s is external in p
abbrev pub with_external_number : Kept → ℕ → ℕ → Kept
with_external_number k p s = record k { externals = k.externals ++ (p, s) ∷ [] }

-- where p uses q
abbrev pub with_use : Kept → ℕ → ℕ → Kept
with_use k p q = record k { uses = k.uses ++ (p, q) ∷ [] }
