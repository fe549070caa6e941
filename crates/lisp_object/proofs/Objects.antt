-- The equations of the folds over data, one for each variant. A crate above names a ruleset of these in its `using(..)`.
use Rattle.std.proofs.Common.{◌≡◌, ℕ, ◌+◌, max, ℤ, List, map, Some, None, ap, sym, ◌∙◌}
use Rattle.std.specs.Prelude.{sum}
use Rattle.lisp_object.specs.declared.datum.Datum
use Rattle.lisp_object.specs.declared.datum.Datum.{Datum, fold-Datum, fold-roll-Datum}
use Rattle.lisp_object.specs.declared.datum.Datum.TheOpen.{Datum-F}
use Rattle.lisp_object.specs.declared.datum.Datum.TheVariants.{rolls-Integer, rolls-Rational, rolls-Char, rolls-Text, rolls-Symbol, rolls-Uninterned, rolls-List, rolls-Vector}
use Rattle.lisp_object.specs.Object.{integer, rational, character, text, symbol, uninterned, vector, nil, pairs}
use Rattle.lisp_object.specs.Datum.{object_of, object_step, depth, depth_step, greatest, size, size_step}

-- a fold at each variant
module _ {A : Type 0} (step : Datum-F A → A) where
  pub fold-Integer : (n : ℤ) → fold-Datum A step (Datum.Integer n) ≡ step (Datum-F.Integer n)
  fold-Integer n = ap (fold-Datum A step) (sym (rolls-Integer n)) ∙ fold-roll-Datum A step (Datum-F.Integer n)

  pub fold-Rational : (r : ℤ × ℕ) → fold-Datum A step (Datum.Rational r) ≡ step (Datum-F.Rational r)
  fold-Rational r = ap (fold-Datum A step) (sym (rolls-Rational r)) ∙ fold-roll-Datum A step (Datum-F.Rational r)

  pub fold-Char : (c : ℕ) → fold-Datum A step (Datum.Char c) ≡ step (Datum-F.Char c)
  fold-Char c = ap (fold-Datum A step) (sym (rolls-Char c)) ∙ fold-roll-Datum A step (Datum-F.Char c)

  pub fold-Text : (bytes : List ℕ) → fold-Datum A step (Datum.Text bytes) ≡ step (Datum-F.Text bytes)
  fold-Text bytes = ap (fold-Datum A step) (sym (rolls-Text bytes)) ∙ fold-roll-Datum A step (Datum-F.Text bytes)

  pub fold-Symbol : (home name : List ℕ) → fold-Datum A step (Datum.Symbol home name) ≡ step (Datum-F.Symbol home name)
  fold-Symbol home name = ap (fold-Datum A step) (sym (rolls-Symbol home name)) ∙ fold-roll-Datum A step (Datum-F.Symbol home name)

  pub fold-Uninterned : (name : List ℕ) → fold-Datum A step (Datum.Uninterned name) ≡ step (Datum-F.Uninterned name)
  fold-Uninterned name = ap (fold-Datum A step) (sym (rolls-Uninterned name)) ∙ fold-roll-Datum A step (Datum-F.Uninterned name)

  pub fold-List : (items : List Datum)
      → fold-Datum A step (Datum.List items None) ≡ step (Datum-F.List (map (fold-Datum A step) items) None)
  fold-List items = ap (fold-Datum A step) (sym (rolls-List items None)) ∙ fold-roll-Datum A step (Datum-F.List items None)

  pub fold-dotted : (items : List Datum) (tail : Datum)
      → fold-Datum A step (Datum.List items (Some tail)) ≡ step (Datum-F.List (map (fold-Datum A step) items) (Some (fold-Datum A step tail)))
  fold-dotted items tail = ap (fold-Datum A step) (sym (rolls-List items (Some tail))) ∙ fold-roll-Datum A step (Datum-F.List items (Some tail))

  pub fold-Vector : (items : List Datum) → fold-Datum A step (Datum.Vector items) ≡ step (Datum-F.Vector (map (fold-Datum A step) items))
  fold-Vector items = ap (fold-Datum A step) (sym (rolls-Vector items)) ∙ fold-roll-Datum A step (Datum-F.Vector items)

pub object_of-Integer : (n : ℤ) → object_of (Datum.Integer n) ≡ integer n
object_of-Integer = fold-Integer object_step

pub object_of-Rational : (r : ℤ × ℕ) → object_of (Datum.Rational r) ≡ rational r.0 r.1
object_of-Rational = fold-Rational object_step

pub object_of-Char : (c : ℕ) → object_of (Datum.Char c) ≡ character c
object_of-Char = fold-Char object_step

pub object_of-Text : (bytes : List ℕ) → object_of (Datum.Text bytes) ≡ text bytes
object_of-Text = fold-Text object_step

pub object_of-Symbol : (home name : List ℕ) → object_of (Datum.Symbol home name) ≡ symbol home name
object_of-Symbol = fold-Symbol object_step

pub object_of-Uninterned : (name : List ℕ) → object_of (Datum.Uninterned name) ≡ uninterned name
object_of-Uninterned = fold-Uninterned object_step

pub object_of-List : (items : List Datum) → object_of (Datum.List items None) ≡ pairs (map object_of items) nil
object_of-List = fold-List object_step

pub object_of-dotted : (items : List Datum) (tail : Datum)
    → object_of (Datum.List items (Some tail)) ≡ pairs (map object_of items) (object_of tail)
object_of-dotted = fold-dotted object_step

pub object_of-Vector : (items : List Datum) → object_of (Datum.Vector items) ≡ vector (pairs (map object_of items) nil)
object_of-Vector = fold-Vector object_step

-- what a datum of each variant stands for
pub ruleset object_laws = (object_of-Integer, object_of-Rational, object_of-Char, object_of-Text, object_of-Symbol, object_of-Uninterned, object_of-List, object_of-dotted, object_of-Vector)

pub depth-List : (items : List Datum) → depth (Datum.List items None) ≡ max (greatest (map depth items)) 0 + 1
depth-List = fold-List depth_step

pub depth-dotted : (items : List Datum) (tail : Datum)
    → depth (Datum.List items (Some tail)) ≡ max (greatest (map depth items)) (depth tail) + 1
depth-dotted = fold-dotted depth_step

pub depth-Vector : (items : List Datum) → depth (Datum.Vector items) ≡ greatest (map depth items) + 1
depth-Vector = fold-Vector depth_step

-- the depth of a list and of a vector
pub ruleset depth_laws = (depth-List, depth-dotted, depth-Vector)

pub size-List : (items : List Datum) → size (Datum.List items None) ≡ sum (map size items) + 0 + 1
size-List = fold-List size_step

pub size-dotted : (items : List Datum) (tail : Datum) → size (Datum.List items (Some tail)) ≡ sum (map size items) + size tail + 1
size-dotted = fold-dotted size_step

pub size-Vector : (items : List Datum) → size (Datum.Vector items) ≡ sum (map size items) + 1
size-Vector = fold-Vector size_step

-- the size of a list and of a vector
pub ruleset size_laws = (size-List, size-dotted, size-Vector)
