-- What is kept of the packages: lists that only grow, in which the position of a thing is its number.
use Rattle.std.specs.Prelude.{ℕ, ◌+◌, ◌≤◌, Bool, ◌&&◌, nat_eq, List, [], ◌∷◌, length, take, get_or, position, if◌then◌else◌, Option, option_map, refl}
use Rattle.std.specs.Coded.{Coded, code_by, coded×, coded_ℕ, coded_list}
use Rattle.package_sets.specs.declared.sizes.Sizes.{Sizes}

-- a name: its characters
abbrev pub Name : Type 0
Name = List ℕ

abbrev pub name_code : Coded Name
name_code = coded_list coded_ℕ

abbrev pub pairs_code : Coded (List (ℕ × ℕ))
pairs_code = coded_list (coded× coded_ℕ coded_ℕ)

-- The names of symbols; the packages, by their names; the symbols, each by the number of its home and of its name; what is
-- imported, by the numbers of the package and of the name, and beside it the number of the symbol; what is external, by the
-- numbers of the package and of the symbol; what is used, by the numbers of the package and of the package that it uses.
pub record Kept : Type 0 where
  pub names : List Name
  pub packages : List Name
  pub symbols : List (ℕ × ℕ)
  pub imports : List (ℕ × ℕ)
  pub imported : List ℕ
  pub externals : List (ℕ × ℕ)
  pub uses : List (ℕ × ℕ)

-- what is kept, as one tuple
abbrev pub Stored : Type 0
Stored =
    List Name × (List Name × (List (ℕ × ℕ) × (List (ℕ × ℕ) × (List ℕ × (List (ℕ × ℕ) × List (ℕ × ℕ))))))

abbrev pub stored_code : Coded Stored
stored_code =
    coded× (coded_list name_code)
    (coded× (coded_list name_code)
    (coded× pairs_code (coded× pairs_code (coded× (coded_list coded_ℕ) (coded× pairs_code pairs_code)))))

abbrev pub stored_sets : Kept → Stored
stored_sets k = (k.names, (k.packages, (k.symbols, (k.imports, (k.imported, (k.externals, k.uses))))))

abbrev pub restored_sets : Stored → Kept
restored_sets p = record {
  names = p.0;
  packages = p.1.0;
  symbols = p.1.1.0;
  imports = p.1.1.1.0;
  imported = p.1.1.1.1.0;
  externals = p.1.1.1.1.1.0;
  uses = p.1.1.1.1.1.1;
}

-- what is kept is told apart by its parts
abbrev pub kept_code : Coded Kept
kept_code = code_by Stored stored_code stored_sets restored_sets (λ _. refl)

-- no packages and nothing else
abbrev pub nothing : Kept
nothing = record {
  names = [];
  packages = [];
  symbols = [];
  imports = [];
  imported = [];
  externals = [];
  uses = [];
}

-- the name of a number
abbrev pub name_at : List Name → ℕ → Name
name_at ns i = get_or ns i []

-- the pair of a number
abbrev pub pair_at : List (ℕ × ℕ) → ℕ → ℕ × ℕ
pair_at ps i = get_or ps i (0, 0)

-- whether two pairs of numbers are one
abbrev pub pair_eq : ℕ × ℕ → ℕ × ℕ → Bool
pair_eq p q = nat_eq p.0 q.0 && nat_eq p.1 q.1

-- the number of the symbol that the package p imports by the name of number n
abbrev pub import_of : Kept → ℕ → ℕ → Option ℕ
import_of k p n = option_map (λ i. get_or k.imported i 0) (position (pair_eq (p, n)) k.imports)

-- how long each of the lists is
abbrev pub sizes_of : Kept → Sizes
sizes_of k = record {
  names = length k.names;
  packages = length k.packages;
  symbols = length k.symbols;
  imports = length k.imports;
  externals = length k.externals;
  uses = length k.uses;
}

-- each of n is at most that of m
pub record AreUpTo (n m : Sizes) : Type 0 where
  pub names : n.names ≤ m.names
  pub packages : n.packages ≤ m.packages
  pub symbols : n.symbols ≤ m.symbols
  pub imports : n.imports ≤ m.imports
  pub externals : n.externals ≤ m.externals
  pub uses : n.uses ≤ m.uses

-- what was kept when the lists had these lengths
abbrev pub cut : Sizes → Kept → Kept
cut n k = record {
  names = take n.names k.names;
  packages = take n.packages k.packages;
  symbols = take n.symbols k.symbols;
  imports = take n.imports k.imports;
  imported = take n.imports k.imported;
  externals = take n.externals k.externals;
  uses = take n.uses k.uses;
}

-- the positions, from i on, of the pairs that begin with f
unfoldable pub positions_from : ℕ → ℕ → List (ℕ × ℕ) → List ℕ
positions_from f i [] = []
positions_from f i (p ∷ ps) =
    if nat_eq p.0 f then i ∷ positions_from f (i + 1) ps else positions_from f (i + 1) ps

-- the positions of the pairs that begin with f, rising
abbrev pub positions_of : ℕ → List (ℕ × ℕ) → List ℕ
positions_of f ps = positions_from f 0 ps
