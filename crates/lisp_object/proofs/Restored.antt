-- A proper datum is told by the object that it stands for: it can be built again from it.
use Rattle.std.proofs.Common.{◌≡◌, ℕ, ℤ, List, [], ◌∷◌, length, map, Option, None, Some, true, false, nat_lt, refl, sym, ap, ◌∙◌}
use Rattle.std.specs.Prelude.{if◌then◌else◌}
use Rattle.std.specs.List.{list_all}
use Rattle.std.proofs.lemmas.Bool.{and_parts}
use Rattle.lisp_object.specs.declared.datum.Datum
use Rattle.lisp_object.specs.declared.datum.Datum.{Datum}
use Rattle.lisp_object.specs.Object.{Object, integer, rational, character, text, symbol, uninterned, pair, vector, nil, is_nil, pairs, list_of}
use Rattle.lisp_object.specs.Datum.{object_of, is_proper}
use Rattle.lisp_object.proofs.ByKind

-- the datum of an object, the items of a list, and its end unless that is NIL
abbrev mutual
  pub datum_of : Object → Datum
  datum_of (integer n) = Datum.Integer n
  datum_of (rational n d) = Datum.Rational (n, d)
  datum_of (character c) = Datum.Char c
  datum_of (text bytes) = Datum.Text bytes
  datum_of (symbol home name) = Datum.Symbol home name
  datum_of (uninterned name) = Datum.Uninterned name
  datum_of (pair a b) = Datum.List (datum_of a ∷ items_along b) (end_along b)
  datum_of (vector xs) = Datum.Vector (items_along xs)

  pub items_along : Object → List Datum
  items_along (pair a b) = datum_of a ∷ items_along b
  items_along _ = []

  pub end_along : Object → Option Datum
  end_along (integer n) = Some (Datum.Integer n)
  end_along (rational n d) = Some (Datum.Rational (n, d))
  end_along (character c) = Some (Datum.Char c)
  end_along (text bytes) = Some (Datum.Text bytes)
  end_along (symbol home name) = if is_nil home name then None else Some (Datum.Symbol home name)
  end_along (uninterned name) = Some (Datum.Uninterned name)
  end_along (pair a b) = end_along b
  end_along (vector xs) = Some (Datum.Vector (items_along xs))

-- a datum comes back from its object, and so does an end of a list
abbrev Whole : Datum → Object → Type 0
Whole x o = datum_of o ≡ x

abbrev End : Datum → Object → Type 0
End x o = (items_along o ≡ []) × (end_along o ≡ Some x)

abbrev Known : Type 0
Known = ByKind.Known Whole End

abbrev data_of : List Known → List Datum
data_of es = ByKind.data_of Whole End es

along : (es : List Known) (end : Object) → items_along end ≡ [] → list_all is_proper (data_of es) ≡ true
    → items_along (pairs (map object_of (data_of es)) end) ≡ data_of es
along [] end none all = none
along (e ∷ es) end none all =
    let parts : (is_proper e.0 ≡ true) × (list_all is_proper (data_of es) ≡ true) =
    and_parts (is_proper e.0) (list_all is_proper (data_of es)) all in
    λ i. (e.1 parts.0).0 i ∷ along es end none parts.1 i

ends_same : (es : List Known) (end : Object) → end_along (pairs (map object_of (data_of es)) end) ≡ end_along end
ends_same [] end = refl
ends_same (e ∷ es) end = ends_same es end

-- where there is an item, the pairs give a list of these items and this end
over : (es : List Known) (end : Object) → nat_lt 0 (length (data_of es)) ≡ true
    → datum_of (pairs (map object_of (data_of es)) end)
    ≡ Datum.List (items_along (pairs (map object_of (data_of es)) end)) (end_along (pairs (map object_of (data_of es)) end))
over [] end some = absurd (cc)
over (e ∷ es) end some = refl

list_back : (es : List Known) (end : Object) (tail : Option Datum) → nat_lt 0 (length (data_of es)) ≡ true
    → list_all is_proper (data_of es) ≡ true → items_along end ≡ [] → end_along end ≡ tail
    → datum_of (pairs (map object_of (data_of es)) end) ≡ Datum.List (data_of es) tail
list_back es end tail some all none last =
    over es end some ∙ (λ i. Datum.List (along es end none all i) ((ends_same es end ∙ last) i))

vector_back : (es : List Known) → list_all is_proper (data_of es) ≡ true
    → items_along (list_of (map object_of (data_of es))) ≡ data_of es
vector_back es all = along es nil refl all

pub datum_of-object_of : (x : Datum) → is_proper x ≡ true → datum_of (object_of x) ≡ x
datum_of-object_of x proper =
    (ByKind.by_kind Whole End
    (λ n. (refl, (refl, refl))) (λ r. (refl, (refl, refl))) (λ c. (refl, (refl, refl))) (λ b. (refl, (refl, refl)))
    (λ home name. (refl, λ unnamed. (refl, ap (λ b. if b then None else Some (Datum.Symbol home name)) unnamed)))
    (λ name. (refl, (refl, refl)))
    (λ es some all. list_back es nil None some all refl refl)
    (λ es t some all end. list_back es (object_of t.0) (Some t.0) some all end.0 end.1)
    (λ es all. (ap Datum.Vector (vector_back es all), (refl, ap (λ xs. Some (Datum.Vector xs)) (vector_back es all)))) x proper).0

-- proper data that stand for one object are equal
pub same_datum : (x y : Datum) → is_proper x ≡ true → is_proper y ≡ true → object_of x ≡ object_of y → x ≡ y
same_datum x y px py e = sym (datum_of-object_of x px) ∙ ap datum_of e ∙ datum_of-object_of y py

-- which datum stands for an object of each kind
pub from_object : (x : Datum) (o : Object) → is_proper x ≡ true → object_of x ≡ o → x ≡ datum_of o
from_object x o proper is = sym (datum_of-object_of x proper) ∙ ap datum_of is

pub from_integer : (x : Datum) (n : ℤ) → is_proper x ≡ true → object_of x ≡ integer n → x ≡ Datum.Integer n
from_integer x n = from_object x (integer n)

pub from_rational : (x : Datum) (n : ℤ) (d : ℕ) → is_proper x ≡ true → object_of x ≡ rational n d → x ≡ Datum.Rational (n, d)
from_rational x n d = from_object x (rational n d)

pub from_character : (x : Datum) (c : ℕ) → is_proper x ≡ true → object_of x ≡ character c → x ≡ Datum.Char c
from_character x c = from_object x (character c)

pub from_text : (x : Datum) (bytes : List ℕ) → is_proper x ≡ true → object_of x ≡ text bytes → x ≡ Datum.Text bytes
from_text x bytes = from_object x (text bytes)

pub from_symbol : (x : Datum) (home name : List ℕ) → is_proper x ≡ true → object_of x ≡ symbol home name → x ≡ Datum.Symbol home name
from_symbol x home name = from_object x (symbol home name)

pub from_uninterned : (x : Datum) (name : List ℕ) → is_proper x ≡ true → object_of x ≡ uninterned name → x ≡ Datum.Uninterned name
from_uninterned x name = from_object x (uninterned name)

pub from_pair : (x : Datum) (a b : Object) → is_proper x ≡ true → object_of x ≡ pair a b
    → x ≡ Datum.List (datum_of a ∷ items_along b) (end_along b)
from_pair x a b = from_object x (pair a b)

pub from_vector : (x : Datum) (xs : Object) → is_proper x ≡ true → object_of x ≡ vector xs → x ≡ Datum.Vector (items_along xs)
from_vector x xs = from_object x (vector xs)
