-- What a call that changes packages answers, and what it leaves of a world.
use Rattle.std.specs.Prelude.{◌≡◌, Bool, Result, IfOk, IfErr}
use Rattle.package_table.specs.declared.error.PackageError.{PackageError}
use Rattle.package_table.specs.Table.{Table}
use Rattle.package_table.specs.Changes.{AnswersPackages, RunsOutOnlyIf, Yields}
use Rattle.package_table.specs.Growth.{Grows, TellsOfChange}
use Rattle.plist_state.specs.State.{Worlds}
use Rattle.plist_state.specs.Changes.{with_packages}

-- It answers whether the packages changed, which are then the ones that are said, or refuses as is said; memory runs out only
-- for a change. All else stays, nothing of the packages is lost, and after an error nothing has changed.
pub record ChangesPackages (old new : Worlds) (result : Result Bool PackageError) (said : Result Table PackageError) (changes : Bool) : Type 0 where
  pub gives : AnswersPackages (λ _. new.0.packages) result said
  pub changed : Yields result changes
  pub memory : IfErr result (RunsOutOnlyIf changes)
  pub exactly : IfOk result (λ changed. TellsOfChange changed old.0.packages new.0.packages)
  pub rest : new ≡ (with_packages old.0 new.0.packages, old.1)
  pub grows : Grows old.0.packages new.0.packages
  pub unchanged : IfErr result (λ _. new ≡ old)
