-- What may be tried in a world may be tried in the same world after a call.
use Rattle.std.proofs.Common.{◌≡◌, Bool, true, ◌&&◌, ℕ, List, Option, Some, Result, Ok, Err, sym, subst}
use Rattle.std.specs.Prelude.{IfOk, IfSome}
use Rattle.std.specs.declared.alloc.AllocError.{AllocError}
use Rattle.std.proofs.lemmas.Bool.{and_from}
use Rattle.lisp_object.specs.declared.datum.Datum.{Datum}
use Rattle.plist_state.specs.State.{WorldState, Worlds}
use Rattle.package_table.specs.Table.{Name}
use Rattle.refused_part.specs.Search.{IsFoundPart, MayTry}
use Rattle.refused_part.specs.declared.placed.PlacedPart.{PlacedPart}

pub may_after : (old new : Worlds) (d : Datum) → new ≡ old → MayTry old.0.packages d → MayTry new.0.packages d
may_after old new d same may = subst (λ w. MayTry w.0.packages d) (sym same) may

-- what is known of two questions in the same world is known of both
pub also_told : (P : WorldState → Bool) (old new : Worlds) → new ≡ old → (one : Bool) → one ≡ true → (result : Result Bool AllocError)
    → IfOk result (λ other. other ≡ true → P new.0 ≡ true) → IfOk result (λ other. other ≡ true → (one && P old.0) ≡ true)
also_told P old new same one holds (Ok other) tells = λ told. and_from one (P old.0) holds (subst (λ w. P w.0 ≡ true) same (tells told))
also_told P old new same one holds (Err e) tells = tells

-- what was found in the same world
pub found_in : (names : List Name) (number : ℕ) (form : Datum) (old new : Worlds) → new ≡ old → (given : Option PlacedPart) (found : PlacedPart) → given ≡ Some found
    → IfSome given (IsFoundPart names new.0 number form) → IsFoundPart names old.0 number form found
found_in names number form old new same given found is told =
    subst (λ w. IsFoundPart names w.0 number form found) same (subst (λ p. IfSome p (IsFoundPart names new.0 number form)) is told)
