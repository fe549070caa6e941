use Rattle.std.proofs.Common.{◌≡◌, drop}
use Rattle.lisp_object.specs.Refusal.{name_among, rows_of}
use Rattle.lisp_object.proofs.refusal.name_in.Given as goal

-- the name is among the rows that are left
abbrev pub invariant-rows : goal.invariant-rows
invariant-rows l =
    name_among (rows_of (drop l.known-index l.rows)) l.number ≡ name_among (rows_of l.rows) l.number
