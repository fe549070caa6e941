-- What the calls that write make of the packages, or the first reason for which they refuse. Which symbol a package finds by
-- a name, `home_by_name` of Lookup.antt says.
use Rattle.std.specs.Prelude.{◌≡◌, Bool, true, false, not, ◌&&◌, ◌||◌, ◌==◌, nat_lt, nat_le, length, is_none, is_some, bytes_eq, if◌then◌else◌, IsTrue, Result, Ok, Err, IsOk, IfOk, MatchResult}
use Rattle.std.specs.List.{list_any}
use Rattle.std.specs.Option.{option_map_or}
use Rattle.std.specs.FinMap as finite
use Rattle.package_table.specs.declared.error.PackageError.{PackageError}
use Rattle.package_table.specs.declared.error.PackageError.TheVariants.{EmptyName, NoSuchPackage, PackageExists, PackageIsLocked, NameConflict, NotAccessible, Limit, OutOfMemory}
use Rattle.package_table.specs.Limits.{most_packages, most_symbols, longest_package_name, longest_symbol_name}
use Rattle.package_table.specs.Table.{Name, Table, common_lisp, keyword, is_locked, package_named, symbol_count, with_entry, with_used, with_new_package}
use Rattle.package_table.specs.Lookup.{home_by_name, is_present, is_external, is_used}
use Rattle.package_table.specs.Readers.{present_symbols}

-- There are as many packages as there may be, or as many symbols: one more is refused.
abbrev pub is_full_of_packages : Table → Bool
is_full_of_packages t = nat_le most_packages (finite.len t)

-- there may be no symbol more
abbrev pub is_full_of_symbols : Table → Bool
is_full_of_symbols t = nat_le most_symbols (symbol_count t)

-- MAKE-PACKAGE (standard 11.2): a package of the name n, which has no symbols and uses nothing
abbrev pub after_make : Table → Name → Result Table PackageError
after_make t n =
    if length n == 0 then Err EmptyName
    else (if is_some (package_named t n) then Err PackageExists
    else (if is_full_of_packages t || nat_lt longest_package_name (length n) then Err Limit
    else Ok (with_new_package t n)))

-- the table with a new symbol, which is at home in p. Symbols of KEYWORD are external.
abbrev pub with_new_symbol : Table → Name → Name → Table
with_new_symbol t p n = with_entry t p n (record { home = p; external = bytes_eq p keyword })

-- INTERN (standard 11.2): the home of the symbol that p finds by the name n, or of the new one
abbrev pub after_intern : Table → Name → Name → Result (Name × Table) PackageError
after_intern t p n =
    if not (finite.contains_key t p) then Err NoSuchPackage
    else option_map_or (λ h. Ok (h, t)) (home_by_name t p n)
    (if bytes_eq p common_lisp then Err PackageIsLocked
    else (if nat_lt longest_symbol_name (length n) || is_full_of_symbols t then Err Limit
    else Ok (p, with_new_symbol t p n)))

-- p finds the symbol of home h by the name n
abbrev pub finds_this : Table → Name → Name → Name → Bool
finds_this t p h n = option_map_or (λ g. bytes_eq g h) (home_by_name t p n) false

-- p finds another symbol than that of home h by the name n
abbrev pub finds_other : Table → Name → Name → Name → Bool
finds_other t p h n = option_map_or (λ g. not (bytes_eq g h)) (home_by_name t p n) false

-- a package that uses p finds another symbol than that of home h by the name n
abbrev pub user_finds_other : Table → Name → Name → Name → Bool
user_finds_other t p h n = list_any (λ r. finite.contains_key r.1.uses p && finds_other t r.0 h n) (finite.entries t)

-- the table where the symbol of home h and name n is external in p, and so present there
abbrev pub with_external : Table → Name → Name → Name → Table
with_external t p h n = with_entry t p n (record { home = h; external = true })

-- EXPORT (standard 11.2). A symbol that p inherits becomes present too.
abbrev pub after_export : Table → Name → Name → Name → Result Table PackageError
after_export t p h n =
    if not (finite.contains_key t p) then Err NoSuchPackage
    else (if is_locked p then Err PackageIsLocked
    else (if not (finds_this t p h n) then Err NotAccessible
    else (if user_finds_other t p h n then Err NameConflict
    else Ok (with_external t p h n))))

-- the table where the symbol of home h and name n is present in p. One that was present stays as it was.
abbrev pub with_present : Table → Name → Name → Name → Table
with_present t p h n = if is_present t p n then t else with_entry t p n (record { home = h; external = false })

-- IMPORT (standard 11.2). A symbol that p inherits becomes present.
abbrev pub after_import : Table → Name → Name → Name → Result Table PackageError
after_import t p h n =
    if not (finite.contains_key t p) then Err NoSuchPackage
    else (if is_locked p then Err PackageIsLocked
    else (if finds_other t p h n then Err NameConflict
    else Ok (with_present t p h n)))

-- p finds another symbol by the name of one that is external in q
abbrev pub finds_other_than_shown : Table → Name → Name → Bool
finds_other_than_shown t p q = list_any (λ s. s.1.external && finds_other t p s.1.home s.0) (present_symbols t q)

-- USE-PACKAGE (standard 11.2). A package that is used already, and p itself, are passed over.
abbrev pub after_use : Table → Name → Name → Result Table PackageError
after_use t p q =
    if not (finite.contains_key t p) || not (finite.contains_key t q) then Err NoSuchPackage
    else (if is_locked p || bytes_eq q keyword then Err PackageIsLocked
    else (if bytes_eq p q || is_used t p q then Ok t
    else (if finds_other_than_shown t p q then Err NameConflict
    else Ok (with_used t p q))))

-- whether a call that is not refused changes the packages
abbrev pub intern_changes : Table → Name → Name → Bool
intern_changes t p n = is_none (home_by_name t p n)

-- whether EXPORT changes something: the symbol is not external yet
abbrev pub export_changes : Table → Name → Name → Bool
export_changes t p n = not (is_external t p n)

-- whether IMPORT changes something: the symbol is not present yet
abbrev pub import_changes : Table → Name → Name → Bool
import_changes t p n = not (is_present t p n)

-- whether USE-PACKAGE changes something: it is another package, and not used yet
abbrev pub use_changes : Table → Name → Name → Bool
use_changes t p q = not (bytes_eq p q || is_used t p q)

-- A call answers what the definition says. That a growth was refused it answers only if the definition refuses nothing.
abbrev pub AnswersPackages : {A B : Type 0} → (A → B) → Result A PackageError → Result B PackageError → Type 0
AnswersPackages view (Ok x) said = said ≡ Ok (view x)
AnswersPackages view (Err OutOfMemory) said = IsOk said
AnswersPackages view (Err e) said = said ≡ Err e

-- A call that is not refused answers v.
abbrev pub Yields : {B : Type 0} → Result B PackageError → B → Type 0
Yields said v = IfOk said (λ x. x ≡ v)

-- Memory runs out only if the call would change the packages.
abbrev pub RunsOutOnlyIf : Bool → PackageError → Type 0
RunsOutOnlyIf changes OutOfMemory = IsTrue changes
RunsOutOnlyIf changes e = Unit {0}

-- whether the packages change, as a call answers it that takes memory for a change alone
abbrev pub TellsChange : Bool → Result Bool PackageError → Type 0
TellsChange changes said = MatchResult said (λ changed. changed ≡ changes) (RunsOutOnlyIf changes)
