use Rattle.std.proofs.Common.{All, take}
use Rattle.lisp_object.specs.Object.{AllAtoms}
use Rattle.lisp_object.specs.Datum.{object_of}
use Rattle.plist_state.specs.Sound.{IsSymbolStorable}
use Rattle.snapshot_text.proofs.known.+known.Given as goal

-- the symbols of the items so far
abbrev pub invariant-each_known-loop-item : goal.invariant-each_known-loop-item
invariant-each_known-loop-item l = All (λ d. AllAtoms (IsSymbolStorable l.packages.0) (object_of d)) (take l.item-index l.items-2)
