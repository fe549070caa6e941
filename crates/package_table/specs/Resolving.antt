-- What the name in a token stands for (standard 2.3.5): in the current package, after one package marker, after two.
use Rattle.std.specs.Prelude.{if◌then◌else◌, bytes_eq, Result, Ok, Err, MatchResult, ◌≡◌}
use Rattle.std.specs.Option.{option_map_or}
use Rattle.package_table.specs.declared.error.PackageError.{PackageError}
use Rattle.package_table.specs.declared.error.PackageError.TheVariants.{NoPackage, NotExternal, LockedPackage}
use Rattle.package_table.specs.declared.resolve.Resolved.{Resolved}
use Rattle.package_table.specs.declared.resolve.Resolved.TheVariants.{Found, New}
use Rattle.package_table.specs.Table.{Name, Table, common_lisp, package_named}
use Rattle.package_table.specs.Lookup.{home_by_name, external_home}

-- a symbol that is there, by its home; or a new one, by the package that would be its home
pub data Resolution : Type 0 where
  found_at : Name → Resolution
  new_in : Name → Resolution

-- what the answer of a call says: the home, and whether the symbol is there or would be new
abbrev pub resolution_of : Resolved → Resolution
resolution_of (Found home) = found_at home.now
resolution_of (New home) = new_in home.now

-- the package in which the symbol is at home or would be
abbrev pub home_of : Resolution → Name
home_of (found_at h) = h
home_of (new_in p) = p

-- A call that takes no memory answers what the definition says.
abbrev pub AnswersLookUp : {A B : Type 0} → (B → A) → Result B PackageError → Result A PackageError → Type 0
AnswersLookUp view said is = MatchResult said (λ x. is ≡ Ok (view x)) (λ e. is ≡ Err e)

-- a name in p: it may be new, but not in COMMON-LISP
abbrev pub resolution : Table → Name → Name → Result Resolution PackageError
resolution t p n =
    option_map_or (λ h. Ok (found_at h)) (home_by_name t p n) (if bytes_eq p common_lisp then Err LockedPackage else Ok (new_in p))

-- a name after one package marker: an external symbol, by its home
abbrev pub external_resolution : Table → Name → Name → Result Name PackageError
external_resolution t prefix n =
    option_map_or (λ p. option_map_or (λ h. Ok h) (external_home t p n) (Err NotExternal)) (package_named t prefix) (Err NoPackage)

-- a name after two package markers
abbrev pub internal_resolution : Table → Name → Name → Result Resolution PackageError
internal_resolution t prefix n = option_map_or (λ p. resolution t p n) (package_named t prefix) (Err NoPackage)
