use Rattle.std.proofs.Common.{◌≡◌, true, map}
use Rattle.std.specs.List.{list_all}
use Rattle.lisp_object.specs.Datum.{is_proper, object_of}
use Rattle.reader_tests.specs.Large.{ones}
use Rattle.reader_tests.proofs.large.too_large.Given as goal

abbrev pub invariant-loop : goal.invariant-loop
invariant-loop l = record {
  objects : map object_of l.items ≡ ones l.counter;
  proper : list_all is_proper l.items ≡ true;
}
