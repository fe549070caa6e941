-- The item of a vector at a place.
--     item_there, item_past      at a place, and past the end
--     index_negative, index_past      at an index that is no place
use Rattle.std.proofs.Common.{◌≡◌, ◌<◌, ◌≤◌, ◌≤ℤ◌, ◌<ℤ◌, ℕ, ℤ, pos, negsuc, zero, suc, List, [], ◌∷◌, length, slice_index_or, Ok, Err, refl, arith}
use Rattle.lisp_object.specs.declared.refusal.TheConstants.{INTEGER_RANGE}
use Rattle.lisp_object.specs.declared.datum.Datum.{Datum}
use Rattle.lisp_object.specs.Datum.{object_of}
use Rattle.lisp_operators.specs.EvaluationAnswers.{objects}
use Rattle.value_functions.specs.Sequences.{item_in, item_at}

pub item_there : (ds : List Datum) (at : ℕ) (d : Datum) → at < length ds → item_in at (objects ds) ≡ Ok (object_of (slice_index_or ds at d))
item_there [] at d e = absurd (omega (arith, e))
item_there (x ∷ xs) zero d e = refl
item_there (x ∷ xs) (suc at) d e = item_there xs at d (omega (arith, e))

pub item_past : (ds : List Datum) (at : ℕ) → length ds ≤ at → item_in at (objects ds) ≡ Err INTEGER_RANGE
item_past [] at e = refl
item_past (x ∷ xs) zero e = absurd (omega (arith, e))
item_past (x ∷ xs) (suc at) e = item_past xs at (omega (arith, e))

pub index_negative : (ds : List Datum) (n : ℤ) → n <ℤ pos 0 → item_at (objects ds) n ≡ Err INTEGER_RANGE
index_negative ds (pos n) e = absurd (grind (arith, e))
index_negative ds (negsuc n) e = refl

pub index_past : (ds : List Datum) (n : ℤ) → pos (length ds) ≤ℤ n → item_at (objects ds) n ≡ Err INTEGER_RANGE
index_past ds (pos n) e = item_past ds n (grind (arith, e))
index_past ds (negsuc n) e = refl
