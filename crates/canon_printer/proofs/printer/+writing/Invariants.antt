use Rattle.std.proofs.Common.{◌≡◌, ◌++◌, take, map}
use Rattle.lisp_object.specs.Datum.{object_of}
use Rattle.canon_printer.specs.Written.{written_items}
use Rattle.canon_printer.specs.Printed.{printed_prefix}
use Rattle.canon_printer.proofs.printer.+writing.Given as goal

abbrev pub invariant-write_items-loop-i : goal.invariant-write_items-loop-i
invariant-write_items-loop-i l =
    l.text.items ≡ l.initial.text.items ++ written_items (printed_prefix l.packages.0 l.current) (map object_of (take l.i l.items))
