-- The items of a datum of each variant.
use Rattle.std.proofs.Common.{◌≡◌, ℕ, ℤ, List, [], Option, ap, sym, ◌∙◌}
use Rattle.lisp_object.specs.declared.datum.Datum
use Rattle.lisp_object.specs.declared.datum.Datum.{Datum, out-Datum, roll-Datum, out-roll-Datum}
use Rattle.lisp_object.specs.declared.datum.Datum.TheOpen.{Datum-F}
use Rattle.lisp_object.specs.declared.datum.Datum.TheVariants.{rolls-Integer, rolls-Rational, rolls-Char, rolls-Text, rolls-Symbol, rolls-Uninterned, rolls-List, rolls-Vector}
use Rattle.refused_part.specs.PartPlaces.{layer_items, items_inside}

rolled : (d : Datum) (layer : Datum-F Datum) → roll-Datum layer ≡ d → items_inside d ≡ layer_items layer
rolled d layer is = ap items_inside (sym is) ∙ ap layer_items (out-roll-Datum layer)

pub items_inside-List : (items : List Datum) (tail : Option Datum) → items_inside (Datum.List items tail) ≡ items
items_inside-List items tail = rolled (Datum.List items tail) (Datum-F.List items tail) (rolls-List items tail)

pub items_inside-Vector : (items : List Datum) → items_inside (Datum.Vector items) ≡ []
items_inside-Vector items = rolled (Datum.Vector items) (Datum-F.Vector items) (rolls-Vector items)

pub items_inside-Integer : (n : ℤ) → items_inside (Datum.Integer n) ≡ []
items_inside-Integer n = rolled (Datum.Integer n) (Datum-F.Integer n) (rolls-Integer n)

pub items_inside-Rational : (r : ℤ × ℕ) → items_inside (Datum.Rational r) ≡ []
items_inside-Rational r = rolled (Datum.Rational r) (Datum-F.Rational r) (rolls-Rational r)

pub items_inside-Char : (c : ℕ) → items_inside (Datum.Char c) ≡ []
items_inside-Char c = rolled (Datum.Char c) (Datum-F.Char c) (rolls-Char c)

pub items_inside-Text : (bytes : List ℕ) → items_inside (Datum.Text bytes) ≡ []
items_inside-Text bytes = rolled (Datum.Text bytes) (Datum-F.Text bytes) (rolls-Text bytes)

pub items_inside-Symbol : (home name : List ℕ) → items_inside (Datum.Symbol home name) ≡ []
items_inside-Symbol home name = rolled (Datum.Symbol home name) (Datum-F.Symbol home name) (rolls-Symbol home name)

pub items_inside-Uninterned : (name : List ℕ) → items_inside (Datum.Uninterned name) ≡ []
items_inside-Uninterned name = rolled (Datum.Uninterned name) (Datum-F.Uninterned name) (rolls-Uninterned name)

pub ruleset item_laws = (items_inside-List, items_inside-Vector, items_inside-Integer, items_inside-Rational, items_inside-Char, items_inside-Text, items_inside-Symbol, items_inside-Uninterned)
