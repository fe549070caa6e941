use Rattle.std.proofs.Common.{◌≤◌}
use Rattle.form_reader.specs.Reader.{fed}
use Rattle.reader_tests.proofs.reading.answers_to.Given as goal

abbrev pub invariant-loop-byte : goal.invariant-loop-byte
invariant-loop-byte g l = fed l.reader ≤ l.byte-index
