-- How many steps data are: one step for each variant, its parts already seen.
use Rattle.std.specs.Prelude.{ℕ, ◌+◌, sum, List, length, unwrap_or}
use Rattle.lisp_object.specs.declared.datum.Datum.{Datum, fold-Datum}
use Rattle.lisp_object.specs.declared.datum.Datum.TheOpen.{Datum-F}

-- how much a datum weighs, of what its parts weigh
abbrev pub weight_step : Datum-F ℕ → ℕ
weight_step (Datum-F.Integer n) = 1
weight_step (Datum-F.Rational ratio) = 1
weight_step (Datum-F.Char c) = 1
weight_step (Datum-F.Text bytes) = length bytes + 1
weight_step (Datum-F.Symbol home name) = length name + 1
weight_step (Datum-F.Uninterned name) = length name + 1
weight_step (Datum-F.List items tail) = sum items + unwrap_or tail 0 + 1
weight_step (Datum-F.Vector items) = sum items + 1

-- the weight of the object that a proper datum stands for
abbrev pub datum_weight : Datum → ℕ
datum_weight = fold-Datum ℕ weight_step
