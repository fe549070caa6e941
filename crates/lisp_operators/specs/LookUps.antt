-- The operators that look symbols and packages up (standard 11.2): each of the values of its arguments. They change nothing, and
-- make no symbol.
use Rattle.std.specs.Prelude.{ℕ, if◌then◌else◌, List, [], ◌∷◌, map, filter, is_some, Option, Some, None, Err, codes}
use Rattle.std.specs.Str.{bytes_eq}
use Rattle.lisp_object.specs.Object.{Object, text, symbol, nil}
use Rattle.lisp_object.specs.declared.refusal.TheConstants.{ARGUMENT_KIND}
use Rattle.package_table.specs.Table.{Name}
use Rattle.package_table.specs.Lookup.{home_by_name}
use Rattle.package_table.specs.Readers.{package_names, own_names}
use Rattle.plist_state.specs.Properties.{Symbol}
use Rattle.plist_state.specs.State.{WorldState}
use Rattle.plist_state.specs.Changes.{property}
use Rattle.lisp_operators.specs.declared.look_ups.LookUp.{LookUp}
use Rattle.lisp_operators.specs.declared.look_ups.LookUp.TheVariants.{FindSymbol, ListAllPackages, SymbolsWith}
use Rattle.lisp_operators.specs.Evaluation.{Evaluation, gives, of_kind}
use Rattle.lisp_operators.specs.ArgumentKinds.{a_symbol, a_name, a_text, given_or}
use Rattle.lisp_operators.specs.Properties.{list}
use Rattle.lisp_operators.specs.Packages.{in_package}

-- the symbol of this name and this home; NIL where there is no home
abbrev pub symbol_or_nil : Name → Option Name → Object
symbol_or_nil n (Some home) = symbol home n
symbol_or_nil n None = nil

-- FIND-SYMBOL, its first value: the symbol that the package finds by the name, or NIL
abbrev pub find_symbol : List Object → WorldState → Evaluation Object
find_symbol (x ∷ rest) s =
    of_kind (a_text x) (λ n. of_kind (given_or a_name s.current_package rest) (λ q.
    in_package s q (λ p. gives (symbol_or_nil n (home_by_name s.packages p n)) s)))
find_symbol _ s = Err ARGUMENT_KIND

-- LIST-ALL-PACKAGES: the names of the packages as texts, in the order of their bytes
abbrev pub list_all_packages : List Object → WorldState → Evaluation Object
list_all_packages [] s = list (map text (package_names s.packages)) s
list_all_packages _ s = Err ARGUMENT_KIND

-- the names of the symbols at home in a package that have a property of this indicator, in the order of their bytes
abbrev pub names_with : WorldState → Symbol → Name → List Name
names_with s i p = filter (λ n. is_some (property s (p, n) i)) (own_names s.packages p)

-- SYMBOLS-WITH: these symbols
abbrev pub symbols_with : List Object → WorldState → Evaluation Object
symbols_with (x ∷ rest) s =
    of_kind (a_symbol x) (λ i. of_kind (given_or a_name s.current_package rest) (λ q.
    in_package s q (λ p. list (map (symbol p) (names_with s i p)) s)))
symbols_with _ s = Err ARGUMENT_KIND

-- ---- all of them: the names, how many arguments each takes, and what it gives of them

-- the operator that looks up with this name
abbrev pub look_up_named : Name → Option LookUp
look_up_named name =
    if bytes_eq name (codes "FIND-SYMBOL") then Some FindSymbol
    else (if bytes_eq name (codes "LIST-ALL-PACKAGES") then Some ListAllPackages
    else (if bytes_eq name (codes "SYMBOLS-WITH") then Some SymbolsWith
    else None))

-- how many arguments it takes at least
abbrev pub least_of_look_up : LookUp → ℕ
least_of_look_up FindSymbol = 1
least_of_look_up ListAllPackages = 0
least_of_look_up SymbolsWith = 1

-- how many arguments it takes at most
abbrev pub most_of_look_up : LookUp → ℕ
most_of_look_up FindSymbol = 2
most_of_look_up ListAllPackages = 0
most_of_look_up SymbolsWith = 2

-- what each of them gives
abbrev pub looked_up : LookUp → List Object → WorldState → Evaluation Object
looked_up FindSymbol xs s = find_symbol xs s
looked_up ListAllPackages xs s = list_all_packages xs s
looked_up SymbolsWith xs s = symbols_with xs s
