-- What is answered where a refusal is passed on, and what a definition gives.
use Rattle.std.proofs.Common.{◌≡◌, ◌∙◌}
use Rattle.std.specs.Prelude.{Result, Ok, Err, MatchResult}
use Rattle.std.specs.Result.{IsErrAnd}
use Rattle.package_table.specs.declared.error.PackageError.{PackageError}
use Rattle.snapshot_lines.specs.declared.error.BuildError.{BuildError}
use Rattle.snapshot_lines.specs.declared.error.BuildError.TheVariants.{OutOfMemory}

pub same_ok : {A : Type 0} (x y : A) → ◌≡◌ {A = Result A PackageError} (Ok x) (Ok y) → x ≡ y
same_ok x y e = cc

-- that memory ran out is passed on as it is
pub refused_same : {A : Type 0} (P : A → Type 0) (e : BuildError) → e ≡ OutOfMemory → (r : Result A BuildError) → IsErrAnd r (λ b. b ≡ e) → MatchResult r P (λ b. b ≡ OutOfMemory)
refused_same P e is (Ok x) err = absurd err
refused_same P e is (Err b) err = err ∙ is
