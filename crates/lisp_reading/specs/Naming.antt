-- What a token means where packages are known (standard 2.3): an object, or the dot of a list.
use Rattle.std.specs.Prelude.{◌≡◌, ℕ, List, Result, Ok, Err}
use Rattle.lisp_object.specs.Object.{symbol}
use Rattle.package_table.specs.declared.error.PackageError.{PackageError}
use Rattle.package_table.specs.ErrorNumbers.{package_error_number}
use Rattle.package_table.specs.Resolving.{Resolution, home_of, resolution_of, resolution, external_resolution, internal_resolution}
use Rattle.package_table.specs.Table.{Name, Table as Packages, keyword}
use Rattle.token_scan.specs.declared.mark.Mark.{Mark}
use Rattle.token_meaning.specs.declared.refusal.MeaningRefusal.{MeaningRefusal}
use Rattle.token_meaning.specs.declared.token.TokenName.{TokenName}
use Rattle.token_meaning.specs.declared.token.TokenName.TheVariants.{Unqualified, Keyword, External, Internal}
use Rattle.token_meaning.specs.Folding.{folded_marks}
use Rattle.token_meaning.specs.Meanings.{Meaning, number, dot, name, meaning_of}
use Rattle.token_meaning.specs.Results.{meaning_refusal_number}
use Rattle.package_table.specs.declared.resolve.Resolved.{Resolved}
use Rattle.std.specs.Borrow.{Bor}
use Rattle.lisp_reading.specs.declared.token_resolution.ResolvedToken.{ResolvedToken}
use Rattle.lisp_reading.specs.declared.token_resolution.ResolvedToken.TheVariants.{Object as object, Dot as dot_alone}
use Rattle.lisp_reading.specs.declared.token_resolution.ResolutionError.{ResolutionError}
use Rattle.lisp_reading.specs.declared.token_resolution.ResolutionError.TheVariants.{OutOfMemory, Refused}
use Rattle.lisp_reading.specs.Setting.{Setting}

-- the symbol of this name at the home that was found, or the number of the refusal
abbrev pub symbol_at : Name → Result Name PackageError → Result ResolvedToken ℕ
symbol_at own (Ok home) = Ok (object (symbol home own))
symbol_at own (Err e) = Err (package_error_number e)

-- the symbol of this name, at home where it is found or would be made; or the number of the refusal
abbrev pub symbol_in : Name → Result Resolution PackageError → Result ResolvedToken ℕ
symbol_in own (Ok r) = Ok (object (symbol (home_of r) own))
symbol_in own (Err e) = Err (package_error_number e)

-- The symbol of a name (standard 2.3.5): in the current package; of KEYWORD; external in a package; in a package.
abbrev pub named : Packages → Name → TokenName → Result ResolvedToken ℕ
named packages current (Unqualified own) = symbol_in own (resolution packages current own)
named packages current (Keyword own) = Ok (object (symbol keyword own))
named packages current (External prefix own) = symbol_at own (external_resolution packages prefix own)
named packages current (Internal prefix own) = symbol_in own (internal_resolution packages prefix own)

-- the object that a token means: a number, or a symbol; a dot alone is none
abbrev pub told_meaning : Packages → Name → Result Meaning MeaningRefusal → Result ResolvedToken ℕ
told_meaning packages current (Ok (number x)) = Ok (object x)
told_meaning packages current (Ok dot) = Ok dot_alone
told_meaning packages current (Ok (name own)) = named packages current own
told_meaning packages current (Err refusal) = Err (meaning_refusal_number refusal)

-- the meaning of a token with these marks, or the number of its refusal
abbrev pub token_meant : Setting → List Mark → Result ResolvedToken ℕ
token_meant setting marks = told_meaning setting.packages setting.current (meaning_of setting.base (folded_marks setting.table.letters marks))

-- ---- what the calls answer

-- what was answered is the meaning, unless memory ran out
abbrev pub TellsMeaning : Result ResolvedToken ResolutionError → Result ResolvedToken ℕ → Type 0
TellsMeaning (Ok answer) meaning = meaning ≡ Ok answer
TellsMeaning (Err OutOfMemory) meaning = Unit {0}
TellsMeaning (Err (Refused refusal_number)) meaning = meaning ≡ Err refusal_number

-- what a resolving call answered, as the definitions have it
abbrev pub view_resolved : Result Resolved PackageError → Result Resolution PackageError
view_resolved (Ok r) = Ok (resolution_of r)
view_resolved (Err e) = Err e

-- the home that was answered, as the definitions have it
abbrev pub view_home : Result (Bor Name) PackageError → Result Name PackageError
view_home (Ok home) = Ok home.now
view_home (Err e) = Err e
