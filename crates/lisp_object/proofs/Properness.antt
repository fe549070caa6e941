-- The equations of properness, one for each variant, and what is proper of joined lists. A crate above names `proper_laws` in its `using(..)`.
use Rattle.std.proofs.Common.{◌≡◌, ℕ, ℤ, List, length, map, Some, None, Bool, true, false, not, ◌&&◌, nat_lt, refl, ap, ◌∙◌}
use Rattle.std.specs.List.{list_all}
use Rattle.std.proofs.lemmas.List.{length-map}
use Rattle.std.proofs.lemmas.List.Folds.{list_all-map}
use Rattle.lisp_object.specs.declared.datum.Datum
use Rattle.lisp_object.specs.declared.datum.Datum.{Datum}
use Rattle.lisp_object.specs.Ascii.{is_ascii}
use Rattle.lisp_object.specs.Object.{is_nil}
use Rattle.lisp_object.specs.Datum.{standing, standing_step, is_proper, is_list}
use Rattle.lisp_object.proofs.Objects.{fold-Integer, fold-Rational, fold-Char, fold-Text, fold-Symbol, fold-Uninterned, fold-List, fold-dotted, fold-Vector}

abbrev first : Bool × Bool → Bool
first p = p.0

abbrev second : Bool × Bool → Bool
second p = p.1

pub is_proper-Integer : (n : ℤ) → is_proper (Datum.Integer n) ≡ true
is_proper-Integer n = ap first (fold-Integer standing_step n)

pub is_proper-Rational : (r : ℤ × ℕ) → is_proper (Datum.Rational r) ≡ true
is_proper-Rational r = ap first (fold-Rational standing_step r)

pub is_proper-Char : (c : ℕ) → is_proper (Datum.Char c) ≡ is_ascii c
is_proper-Char c = ap first (fold-Char standing_step c)

pub is_proper-Text : (bytes : List ℕ) → is_proper (Datum.Text bytes) ≡ list_all is_ascii bytes
is_proper-Text bytes = ap first (fold-Text standing_step bytes)

pub is_proper-Symbol : (home name : List ℕ) → is_proper (Datum.Symbol home name) ≡ (list_all is_ascii home && list_all is_ascii name)
is_proper-Symbol home name = ap first (fold-Symbol standing_step home name)

pub is_proper-Uninterned : (name : List ℕ) → is_proper (Datum.Uninterned name) ≡ list_all is_ascii name
is_proper-Uninterned name = ap first (fold-Uninterned standing_step name)

items_proper : (items : List Datum) → list_all (λ p. p.0) (map standing items) ≡ list_all is_proper items
items_proper items = list_all-map (λ p. p.0) standing items

and_true : (b : Bool) → (b && true) ≡ b
and_true true = refl
and_true false = refl

pub is_proper-List : (items : List Datum) → is_proper (Datum.List items None) ≡ (nat_lt 0 (length items) && list_all is_proper items)
is_proper-List items =
    ap first (fold-List standing_step items)
    ∙ rw (length-map items standing, items_proper items, and_true (nat_lt 0 (length items) && list_all is_proper items)) refl

pub is_proper-dotted : (items : List Datum) (tail : Datum)
    → is_proper (Datum.List items (Some tail)) ≡ (nat_lt 0 (length items) && list_all is_proper items && (is_proper tail && not (is_list tail)))
is_proper-dotted items tail =
    ap first (fold-dotted standing_step items tail) ∙ rw (length-map items standing, items_proper items) refl

pub is_proper-Vector : (items : List Datum) → is_proper (Datum.Vector items) ≡ list_all is_proper items
is_proper-Vector items = ap first (fold-Vector standing_step items) ∙ items_proper items

-- when a datum of each variant is proper
pub ruleset proper_laws = (is_proper-Integer, is_proper-Rational, is_proper-Char, is_proper-Text, is_proper-Symbol, is_proper-Uninterned, is_proper-List, is_proper-dotted, is_proper-Vector)

pub is_list-Symbol : (home name : List ℕ) → is_list (Datum.Symbol home name) ≡ is_nil home name
is_list-Symbol home name = ap second (fold-Symbol standing_step home name)

pub is_list-List : (items : List Datum) → is_list (Datum.List items None) ≡ true
is_list-List items = ap second (fold-List standing_step items)

pub is_list-dotted : (items : List Datum) (tail : Datum) → is_list (Datum.List items (Some tail)) ≡ true
is_list-dotted items tail = ap second (fold-dotted standing_step items tail)
