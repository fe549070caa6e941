-- How many packages and symbols there may be, the first ones included, and how many bytes their names may have.
use Rattle.std.specs.Prelude.{ℕ}

-- how many packages a world has at most
abbrev pub most_packages : ℕ
most_packages = 1000

-- each symbol is counted in its home
abbrev pub most_symbols : ℕ
most_symbols = 1000000

-- the most bytes of the name of a package
abbrev pub longest_package_name : ℕ
longest_package_name = 256

-- the most bytes of the name of a symbol
abbrev pub longest_symbol_name : ℕ
longest_symbol_name = 4096
