use Rattle.std.proofs.Common.{◌≡◌, ◌+◌, ◌*◌, take}
use Rattle.std.specs.Prelude.{All, sum_by, IfSome}
use Rattle.lisp_object.specs.Object.{IsSound}
use Rattle.lisp_object.specs.Datum.{object_of, size}
use Rattle.form_reader.specs.Fits.{Fits}
use Rattle.form_reader.proofs.call.answer.+fitting.Given as goal

-- a part of a datum has one less room
abbrev pub decreases-fits : goal.decreases-fits
decreases-fits l = 4 * l.room + 2

abbrev pub decreases-list_fits : goal.decreases-list_fits
decreases-list_fits l = 4 * l.room + 1

abbrev pub decreases-vector_fits : goal.decreases-vector_fits
decreases-vector_fits l = 4 * l.room + 1

abbrev pub decreases-next_fits : goal.decreases-next_fits
decreases-next_fits l = 4 * l.room + 3

abbrev pub decreases-all_fit : goal.decreases-all_fit
decreases-all_fit l = 4 * l.room + 4

abbrev pub decreases-end_fits : goal.decreases-end_fits
decreases-end_fits l = 4 * l.room + 4

abbrev pub invariant-all_fit-loop-item : goal.invariant-all_fit-loop-item
invariant-all_fit-loop-item l = record {
  fit : All (Fits l.packages.0 l.room) (take l.item-index l.items);
  left : l.left + sum_by size (take l.item-index l.items) ≡ l.fn.left;
  sound : All (λ d. IsSound (object_of d)) (take l.item-index l.items);
  last : IfSome l.last (λ p. Fits l.packages.0 l.room p.0.now × (size p.0.now ≡ p.1) × IsSound (object_of p.0.now));
}
