-- Packages (standard 11.1): which symbols are present in each, which of these are external, and which packages it uses.
use Rattle.std.specs.Prelude.{◌≡◌, ℕ, ◌<◌, ◌≤◌, Bool, true, ◌⊎◌, IsTrue, List, [], ◌∷◌, map, length, filter, sum_by, All, codes, bytes_eq, if◌then◌else◌, Option, Some, None, option_map, option_and_then, refl}
use Rattle.std.specs.Option.{option_map_or}
use Rattle.std.specs.List.{list_any}
use Rattle.std.specs.declared.cmp.Ordering.{Ordering}
use Rattle.std.specs.Ordering.{nat_cmp}
use Rattle.std.specs.Cmp.Lexicographic.{slice_cmp}
use Rattle.std.specs.Coded.{Coded, code_by, coded×, coded_ℕ, coded_list, coded_bool}
use Rattle.std.specs.FinMap as finite
use Rattle.std.specs.FinSet as set
use Rattle.package_table.specs.Limits.{most_packages, most_symbols, longest_package_name, longest_symbol_name}
use Rattle.package_table.specs.declared.standardized.TheConstants.{COMMON_LISP, COMMON_LISP_USER, KEYWORD, CL, CL_USER}

-- a name of a package or of a symbol, by its bytes
abbrev pub Name : Type 0
Name = List ℕ

-- names in the order of their bytes
abbrev pub name_cmp : Name → Name → Ordering
name_cmp = slice_cmp nat_cmp

-- what a package has at a name that is present: the symbol, by its home, and whether it is external there
pub record Present : Type 0 where
  pub home : Name
  pub external : Bool

-- its present symbols by their names, and the packages that it uses
pub record Package : Type 0 where
  pub symbols : finite.FinMap name_cmp Present
  pub uses : set.FinSet name_cmp

-- the packages by their names
abbrev pub Table : Type 0
Table = finite.FinMap name_cmp Package

-- what is told apart here: names, what is present, packages, tables
abbrev pub name_code : Coded Name
name_code = coded_list coded_ℕ

abbrev pub present_code : Coded Present
present_code =
    code_by (Name × Bool) (coded× name_code coded_bool) (λ e. (e.home, e.external)) (λ p. record { home = p.0; external = p.1 }) (λ _. refl)

abbrev pub package_code : Coded Package
package_code =
    code_by (finite.FinMap name_cmp Present × set.FinSet name_cmp) (coded× (finite.code name_code present_code) (set.code name_code))
    (λ k. (k.symbols, k.uses)) (λ p. record { symbols = p.0; uses = p.1 }) (λ _. refl)

abbrev pub table_code : Coded Table
table_code = finite.code name_code package_code

-- the three packages that are always there
abbrev pub common_lisp : Name
common_lisp = COMMON_LISP.now

abbrev pub common_lisp_user : Name
common_lisp_user = COMMON_LISP_USER.now

abbrev pub keyword : Name
keyword = KEYWORD.now

-- the name for which a nickname stands: CL is COMMON-LISP, and CL-USER is COMMON-LISP-USER
abbrev pub full_name : Name → Name
full_name n =
    if bytes_eq n CL.now then common_lisp
    else (if bytes_eq n CL_USER.now then common_lisp_user else n)

-- a package whose symbols are fixed or made by reading alone
abbrev pub is_locked : Name → Bool
is_locked p = if bytes_eq p common_lisp then true else bytes_eq p keyword

module _ (t : Table) where
  -- there is a package of this name
  abbrev pub IsPackage : Name → Type 0
  IsPackage p = IsTrue (finite.contains_key t p)

  -- the name of the package that a name or a nickname stands for
  abbrev pub package_named : Name → Option Name
  package_named n = if finite.contains_key t (full_name n) then Some (full_name n) else None

  -- what is present in a package by a name, inherited symbols aside
  abbrev pub entry_at : Name → Name → Option Present
  entry_at p n = option_and_then (λ k. finite.get k.symbols n) (finite.get t p)

  -- the symbol of home h and name n is present in p
  abbrev pub IsPresent : Name → Name → Name → Type 0
  IsPresent p n h = option_map (λ e. e.home) (entry_at p n) ≡ Some h

  -- the symbol that is present in p by the name n is external there
  abbrev pub IsExternal : Name → Name → Type 0
  IsExternal p n = option_map (λ e. e.external) (entry_at p n) ≡ Some true

  -- p uses q
  abbrev pub Uses : Name → Name → Type 0
  Uses p q = option_map (λ k. finite.contains_key k.uses q) (finite.get t p) ≡ Some true

  -- a package finds a name among its present symbols, and among the external ones of the packages that it uses
  abbrev pub Finds : Name → Name → Name → Type 0
  Finds p n h = IsPresent p n h ⊎ ((q : Name) × Uses p q × IsExternal q n × IsPresent q n h)

  -- the package finds no symbol by the name
  abbrev pub FindsNone : Name → Name → Type 0
  FindsNone p n = (h : Name) → Finds p n h → ⊥

-- how many of the symbols that are present in the package p have it as their home
abbrev pub own_count : Name → Package → ℕ
own_count p k = length (filter (λ s. bytes_eq s.1.home p) (finite.entries k.symbols))

-- the number of symbols, each counted in its home
abbrev pub symbol_count : Table → ℕ
symbol_count t = sum_by (λ r. own_count r.0 r.1) (finite.entries t)

-- the table after a change of the package p, if there is one
abbrev pub with_changed_package : Table → Name → (Package → Package) → Table
with_changed_package t p change = option_map_or (λ k. finite.insert t p (change k)) (finite.get t p) t

-- the table where e is at the name n in p
abbrev pub with_entry : Table → Name → Name → Present → Table
with_entry t p n e = with_changed_package t p (λ k. record k { symbols = finite.insert k.symbols n e })

-- the table where p uses q
abbrev pub with_used : Table → Name → Name → Table
with_used t p q = with_changed_package t p (λ k. record k { uses = finite.insert k.uses q tt })

-- a package with no symbol, which uses none
abbrev pub empty_package : Package
empty_package = record { symbols = finite.empty; uses = finite.empty }

-- the table with a new package, which has no symbols and uses nothing
abbrev pub with_new_package : Table → Name → Table
with_new_package t p = finite.insert t p empty_package

-- a package of these symbols, all at home in it and external
abbrev pub package_of_names : Name → List Name → Package
package_of_names p names =
    record { symbols = finite.from_entries (map (λ n. (n, record { home = p; external = true })) names); uses = finite.empty }

-- the symbols of COMMON-LISP, sorted
unfoldable pub common_lisp_names : List Name
common_lisp_names =
    codes "*PACKAGE*" ∷ codes "*READ-BASE*" ∷ codes "*READTABLE*" ∷ codes "COPY-READTABLE" ∷ codes "EXPORT" ∷
    codes "FUNCTION" ∷ codes "GET" ∷ codes "GET-DISPATCH-MACRO-CHARACTER" ∷ codes "GET-MACRO-CHARACTER" ∷
    codes "IF" ∷ codes "IMPORT" ∷ codes "IN-PACKAGE" ∷ codes "IN-READTABLE" ∷ codes "INCF" ∷ codes "INTERN" ∷
    codes "LIST" ∷ codes "MAKE-DISPATCH-MACRO-CHARACTER" ∷ codes "MAKE-PACKAGE" ∷ codes "NIL" ∷ codes "PROGN" ∷
    codes "PUSH" ∷ codes "QUOTE" ∷ codes "READTABLE-CASE" ∷ codes "REMPROP" ∷
    codes "SET-DISPATCH-MACRO-CHARACTER" ∷ codes "SET-MACRO-CHARACTER" ∷ codes "SET-SYNTAX-FROM-CHAR" ∷
    codes "SETF" ∷ codes "SYMBOL-PLIST" ∷ codes "T" ∷ codes "USE-PACKAGE" ∷ []

-- the first symbols of KEYWORD, sorted: the two readtables, the four cases, and the functions of the standard readtable
unfoldable pub keyword_names : List Name
keyword_names =
    codes "DOWNCASE" ∷ codes "INVERT" ∷ codes "PRESERVE" ∷ codes "STANDARD" ∷ codes "STD-BINARY" ∷
    codes "STD-BLOCK" ∷ codes "STD-CHAR" ∷ codes "STD-CLOSE" ∷ codes "STD-COMMENT" ∷ codes "STD-DISPATCH" ∷
    codes "STD-FUNCTION" ∷ codes "STD-HEX" ∷ codes "STD-LIST" ∷ codes "STD-OCTAL" ∷ codes "STD-OUT" ∷
    codes "STD-QUOTE" ∷ codes "STD-RADIX" ∷ codes "STD-STRING" ∷ codes "STD-UNINTERNED" ∷ codes "STD-VECTOR" ∷
    codes "UPCASE" ∷ codes "USER" ∷ []

-- COMMON-LISP, with the symbols that it has from the first on, each external
unfoldable pub common_lisp_package : Package
common_lisp_package = package_of_names common_lisp common_lisp_names

-- KEYWORD, with the keywords that it has from the first on
unfoldable pub keyword_package : Package
keyword_package = package_of_names keyword keyword_names

-- no symbols, and it uses COMMON-LISP
unfoldable pub user_package : Package
user_package = record { symbols = finite.empty; uses = finite.from_entries ((common_lisp, tt) ∷ []) }

-- the first three packages
unfoldable pub initial : Table
initial = finite.from_entries ((common_lisp, common_lisp_package) ∷ (common_lisp_user, user_package) ∷ (keyword, keyword_package) ∷ [])

-- a name that a package may have: no nickname, 1 to 256 characters
pub record IsPackageName (p : Name) : Type 0 where
  pub some : 0 < length p
  pub short : length p ≤ longest_package_name
  pub full : full_name p ≡ p
  pub ascii : All (λ b. b < 128) p

-- a name that a symbol may have: at most 4,096 characters
pub record IsSymbolName (n : Name) : Type 0 where
  pub short : length n ≤ longest_symbol_name
  pub ascii : All (λ b. b < 128) n

-- Each symbol is present in its home, what is used is a package, no package uses itself, and none finds two symbols by
-- one name.
pub record AreUsesSound (t : Table) : Type 0 where
  pub homes : (p n h : Name) → IsPresent t p n h → IsPresent t h n h
  pub used : (p q : Name) → Uses t p q → IsPackage t q
  pub apart : (p : Name) → Uses t p p → ⊥
  pub one : (p n g h : Name) → Finds t p n g → Finds t p n h → g ≡ h

-- COMMON-LISP is as it was first, and COMMON-LISP-USER uses it. KEYWORD has its first symbols; all its symbols are at
-- home there and external; it uses nothing and nothing uses it.
pub record HasFirst (t : Table) : Type 0 where
  pub fixed : finite.get t common_lisp ≡ Some common_lisp_package
  pub user : Uses t common_lisp_user common_lisp
  pub keywords : (n : Name) → IsTrue (list_any (bytes_eq n) keyword_names) → IsPresent t keyword n keyword
  pub own : (n h : Name) → IsPresent t keyword n h → h ≡ keyword
  pub shown : (n h : Name) → IsPresent t keyword n h → IsExternal t keyword n
  pub unusing : (q : Name) → Uses t keyword q → ⊥
  pub unused : (p : Name) → Uses t p keyword → ⊥

-- names are within their lengths, and there are at most 1,000 packages and 1,000,000 symbols
pub record IsWithin (t : Table) : Type 0 where
  pub package_names : (p : Name) → IsPackage t p → IsPackageName p
  pub symbol_names : (p n h : Name) → IsPresent t p n h → IsSymbolName n
  pub packages : finite.len t ≤ most_packages
  pub symbols : symbol_count t ≤ most_symbols

-- what holds of all packages
pub record AreSoundPackages (t : Table) : Type 0 where
  pub joined : AreUsesSound t
  pub first : HasFirst t
  pub within : IsWithin t
