use Rattle.std.proofs.Common.{◌≢◌, ◌≤◌, ℕ}
use Rattle.std.specs.Prelude.{All}
use Rattle.arrayvec.specs.ArrayVec.{array_vec_len}
use Rattle.diagnostics.proofs.fault.write_cause.Given as goal

-- the bytes so far are of one line, and there is room for its end
abbrev pub invariant-bytes : goal.invariant-bytes
invariant-bytes g l = All (λ (byte : ℕ). byte ≢ 10) l.line.items × (array_vec_len l.line ≤ 4600)
