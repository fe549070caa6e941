use Rattle.std.proofs.Common.{◌≡◌, ◌≤◌, length}
use Rattle.form_check.specs.Checking.{after_line}
use Rattle.form_check.proofs.checking.after_line.Given as goal

abbrev pub invariant-bytes : goal.invariant-bytes
invariant-bytes l = (after_line l.rest ≡ after_line l.text) × (length l.rest ≤ length l.text)

abbrev pub decreases-bytes : goal.decreases-bytes
decreases-bytes l = length l.rest
