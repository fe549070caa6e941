use Rattle.std.proofs.Common.{◌≡◌, true}
use Rattle.lisp_object.specs.Datum.{is_proper, object_of}
use Rattle.reader_tests.specs.Large.{nested}
use Rattle.reader_tests.proofs.large.too_deep.Given as goal

abbrev pub invariant-loop : goal.invariant-loop
invariant-loop l = record {
  object : object_of l.datum ≡ nested l.counter;
  proper : is_proper l.datum ≡ true;
}
