-- The text of a snapshot: three objects that hold the packages, the property lists and the readtables of a state, each
-- printed in COMMON-LISP-USER and followed by a newline. What structure there is, is of texts and numbers; NIL is the empty
-- list. Names are sorted by their bytes, as the maps of a state are. The text of version 2 is the one that is written; version
-- 1, which has no base for numbers, is still read.
use Rattle.std.specs.Prelude.{ℕ, pos, ◌==◌, ◌&&◌, ◌||◌, not, if◌then◌else◌, List, [], ◌∷◌, ◌++◌, map, filter, get_or, Option, Some, None, unwrap_or}
use Rattle.std.specs.List.{flat_map, range_with_len}
use Rattle.std.specs.Option.{option_map}
use Rattle.std.specs.Str.{bytes_eq}
use Rattle.std.specs.FinMap as finite
use Rattle.lisp_object.specs.Object.{Object, integer, text, symbol, pair, list_of}
use Rattle.readtable_core.specs.Characters.{syntax_number}
use Rattle.readtable_core.specs.Cases.{case_name}
use Rattle.readtable_core.specs.NamedFunctions.{same_entry}
use Rattle.readtable_core.specs.Tables as readtable
use Rattle.readtable_core.specs.Tables.{CharacterEntry, entry_at, standard}
use Rattle.package_table.specs.Table.{Name, Table, common_lisp, common_lisp_user, keyword, initial as initial_packages}
use Rattle.package_table.specs.Lookup.{is_present}
use Rattle.package_table.specs.Readers.{package_names, used_names, own_names, external_names, imports}
use Rattle.plist_state.specs.Properties.{Symbol, Plist}
use Rattle.plist_state.specs.State.{WorldState, standard_name}
use Rattle.plist_state.specs.Changes.{plist}
use Rattle.plist_state.specs.Readers.{readtable_names, symbols_with_properties}
use Rattle.canon_printer.specs.Printed.{printed}

-- the list of these texts
abbrev pub texts : List Name → Object
texts names = list_of (map (λ n. text n) names)

-- ---- packages: all but COMMON-LISP, which never changes

-- the names at home in a package that are not there from the first, as 22 of KEYWORD are
abbrev pub made_names : Table → Name → List Name
made_names t p = filter (λ n. not (is_present initial_packages p n)) (own_names t p)

-- the names external in a package; none of KEYWORD, where all are
abbrev pub shown_names : Table → Name → List Name
shown_names t p = if bytes_eq p keyword then [] else external_names t p

-- a name that is present from another home, and that home
abbrev pub imported_name : Name × Name → Object
imported_name r = texts (r.0 ∷ r.1 ∷ [])

-- the name of a package, the packages that it uses, these for its own names, its external ones and its imports
abbrev pub package_with : Table → Name → List Name → Object
package_with t p own =
    list_of (text p ∷ texts (used_names t p) ∷ texts own ∷ texts (shown_names t p) ∷ list_of (map imported_name (imports t p)) ∷ [])

-- all but COMMON-LISP, where each has these for its own names
abbrev pub packages_with : Table → (Name → List Name) → Object
packages_with t own = list_of (map (λ p. package_with t p (own p)) (filter (λ p. not (bytes_eq p common_lisp)) (package_names t)))

-- a package, with the names of the symbols that are its own
abbrev pub package_object : Table → Name → Object
package_object t p = package_with t p (made_names t p)

-- the first object of a snapshot: all packages but COMMON-LISP
abbrev pub packages_object : Table → Object
packages_object t = packages_with t (made_names t)

-- ---- property lists

-- a symbol as an object
abbrev pub symbol_object : Symbol → Object
symbol_object x = symbol x.0 x.1

-- a symbol, and its indicators and values in turn
abbrev pub plist_object : Symbol → Plist → Object
plist_object x ps = pair (symbol_object x) (list_of (flat_map (λ p. symbol_object p.0 ∷ p.1 ∷ []) ps))

-- the second object of a snapshot: each symbol that has properties, with them
abbrev pub properties_object : WorldState → Object
properties_object s = list_of (map (λ x. plist_object x (plist s x)) (symbols_with_properties s))

-- ---- readtables: all but STANDARD, which never changes

-- a natural number as an object
abbrev pub number : ℕ → Object
number n = integer (pos n)

-- a sub-character that has a function, and its name
abbrev pub dispatch_object : Option (List ℕ) → ℕ → List Object
dispatch_object None sub = []
dispatch_object (Some function) sub = list_of (number sub ∷ text function ∷ []) ∷ []

-- its dispatch table, in the order of the sub-characters
unfoldable pub dispatch_objects : CharacterEntry → List Object
dispatch_objects e = flat_map (λ sub. dispatch_object (get_or e.dispatch sub None) sub) (range_with_len 0 128)

-- a character, its syntax type, its function or the empty text, and its dispatch table
abbrev pub entry_object : ℕ → CharacterEntry → Object
entry_object c e =
    list_of (number c ∷ number (syntax_number e.syntax) ∷ text (unwrap_or e.function []) ∷ list_of (dispatch_objects e) ∷ [])

-- the entries that are not as in the standard readtable
unfoldable pub entry_objects : readtable.Table → List Object
entry_objects table =
    map (λ c. entry_object c (entry_at table c)) (filter (λ c. not (same_entry (entry_at table c) (entry_at standard c))) (range_with_len 0 128))

-- a readtable: its name, its case, and its entries that are not as in the standard readtable
abbrev pub readtable_object : Name → readtable.Table → Object
readtable_object name table = list_of (text name ∷ text (case_name table.letters) ∷ list_of (entry_objects table) ∷ [])

-- the readtable of this name
abbrev pub snapshot_readtable : WorldState → Name → readtable.Table
snapshot_readtable s n = unwrap_or (finite.get s.readtables n) standard

-- all readtables but STANDARD
abbrev pub readtables_object : WorldState → Object
readtables_object s =
    list_of (map (λ n. readtable_object n (snapshot_readtable s n)) (filter (λ n. not (bytes_eq n standard_name)) (readtable_names s)))

-- ---- the third object

-- the current package and readtable, the base in which numbers are read, and the readtables
abbrev pub tables_object : WorldState → Object
tables_object s =
    list_of (text s.current_package ∷ text s.current_readtable ∷ number s.read_base ∷ readtables_object s ∷ [])

-- the third object of a snapshot of version 1
abbrev pub tables_object_1 : WorldState → Object
tables_object_1 s = list_of (text s.current_package ∷ text s.current_readtable ∷ readtables_object s ∷ [])

-- In a half of this version. Versions 2 and 3 have the same text. Version 1 has no base: it has the states that read in base 10, and no other.
abbrev pub tables_object_in : ℕ → WorldState → Option Object
tables_object_in version s =
    if version == 2 || version == 3 then Some (tables_object s)
    else (if version == 1 && s.read_base == 10 then Some (tables_object_1 s) else None)

-- ---- the text

-- a line: the text of an object as it is printed in COMMON-LISP-USER, and the end of the line
abbrev pub snapshot_line : Table → Object → List ℕ
snapshot_line packages x = printed packages common_lisp_user x ++ 10 ∷ []

-- the lines of a state, with these for the first object and the third
abbrev pub lines_with : WorldState → Object → Object → List ℕ
lines_with s first third = snapshot_line s.packages first ++ snapshot_line s.packages (properties_object s) ++ snapshot_line s.packages third

-- the text of a world with this object for its third
abbrev pub snapshot_with : WorldState → Object → List ℕ
snapshot_with s third = lines_with s (packages_object s.packages) third

-- the text of a state, as it is written: that of versions 2 and 3
abbrev pub snapshot : WorldState → List ℕ
snapshot s = snapshot_with s (tables_object s)

-- the text of a state in a half of this version, if it has one
abbrev pub snapshot_in : ℕ → WorldState → Option (List ℕ)
snapshot_in version s = option_map (snapshot_with s) (tables_object_in version s)
