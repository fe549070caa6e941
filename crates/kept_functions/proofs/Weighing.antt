-- The weight of a proper datum is the weight of the object that it stands for.
--     datum_weight_laws      the equations at each variant
--     weight_object, weight_of_some, weight_of_none      a datum, and lists of data
use Rattle.std.proofs.Common.{◌≡◌, ℕ, ◌+◌, ◌<◌, ℤ, List, [], ◌∷◌, All, length, map, None, Some, true, false, nat_lt, refl, sym, ap, ◌∙◌, arith}
use Rattle.std.specs.Prelude.{sum, if◌then◌else◌}
use Rattle.std.specs.List.{list_all}
use Rattle.std.proofs.lemmas.List.Sums.{sum_by-cons}
use Rattle.std.proofs.lemmas.List.Elements.{All-head, All-tail}
use Rattle.std.proofs.lemmas.Bool.{and_parts}
use Rattle.lisp_object.specs.declared.datum.Datum
use Rattle.lisp_object.specs.declared.datum.Datum.{Datum}
use Rattle.lisp_object.specs.Object.{Object, nil, is_nil, pairs, list_of}
use Rattle.lisp_object.specs.Datum.{object_of, is_proper}
use Rattle.lisp_object.proofs.Objects.{fold-Integer, fold-Rational, fold-Char, fold-Text, fold-Symbol, fold-Uninterned, fold-List, fold-dotted, fold-Vector}
use Rattle.lisp_object.proofs.ByKind
use Rattle.lisp_operators.specs.EvaluationAnswers.{IsProper, AreProper, objects}
use Rattle.kept_functions.specs.Counting.{weight, weight_along}
use Rattle.kept_functions.specs.Weights.{datum_weight, weight_step}

pub weight-Integer : (n : ℤ) → datum_weight (Datum.Integer n) ≡ 1
weight-Integer = fold-Integer weight_step

pub weight-Rational : (r : ℤ × ℕ) → datum_weight (Datum.Rational r) ≡ 1
weight-Rational = fold-Rational weight_step

pub weight-Char : (c : ℕ) → datum_weight (Datum.Char c) ≡ 1
weight-Char = fold-Char weight_step

pub weight-Text : (b : List ℕ) → datum_weight (Datum.Text b) ≡ length b + 1
weight-Text = fold-Text weight_step

pub weight-Symbol : (home name : List ℕ) → datum_weight (Datum.Symbol home name) ≡ length name + 1
weight-Symbol = fold-Symbol weight_step

pub weight-Uninterned : (name : List ℕ) → datum_weight (Datum.Uninterned name) ≡ length name + 1
weight-Uninterned = fold-Uninterned weight_step

pub weight-List : (items : List Datum) → datum_weight (Datum.List items None) ≡ sum (map datum_weight items) + 0 + 1
weight-List = fold-List weight_step

pub weight-dotted : (items : List Datum) (tail : Datum) → datum_weight (Datum.List items (Some tail)) ≡ sum (map datum_weight items) + datum_weight tail + 1
weight-dotted = fold-dotted weight_step

pub weight-Vector : (items : List Datum) → datum_weight (Datum.Vector items) ≡ sum (map datum_weight items) + 1
weight-Vector = fold-Vector weight_step

pub ruleset datum_weight_laws = (weight-Integer, weight-Rational, weight-Char, weight-Text, weight-Symbol, weight-Uninterned, weight-List, weight-dotted, weight-Vector)

-- the weight is that of the object, and where the datum ends a list too
abbrev Whole : Datum → Object → Type 0
Whole x o = datum_weight x ≡ weight o

abbrev End : Datum → Object → Type 0
End x o = datum_weight x ≡ weight_along o

abbrev Known : Type 0
Known = ByKind.Known Whole End

abbrev data_of : List Known → List Datum
data_of es = ByKind.data_of Whole End es

along : (es : List Known) (end : Object) → list_all is_proper (data_of es) ≡ true
    → weight_along (pairs (map object_of (data_of es)) end) ≡ sum (map datum_weight (data_of es)) + weight_along end
along [] end all = omega arith
along (e ∷ es) end all =
    let parts : (is_proper e.0 ≡ true) × (list_all is_proper (data_of es) ≡ true) =
    and_parts (is_proper e.0) (list_all is_proper (data_of es)) all in
    omega (arith, (e.1 parts.0).0, along es end parts.1, sum_by-cons (λ n. n) (datum_weight e.0) (map datum_weight (data_of es)))

-- where there is an item, the weight of the pairs is one more than that of their parts together
over : (es : List Known) (end : Object) → nat_lt 0 (length (data_of es)) ≡ true
    → weight (pairs (map object_of (data_of es)) end) ≡ weight_along (pairs (map object_of (data_of es)) end) + 1
over [] end some = absurd (cc)
over (e ∷ es) end some = refl

of_list : (es : List Known) → nat_lt 0 (length (data_of es)) ≡ true → list_all is_proper (data_of es) ≡ true
    → Whole (Datum.List (data_of es) None) (pairs (map object_of (data_of es)) nil)
of_list es some all = weight-List (data_of es) ∙ sym (over es nil some ∙ ap (λ m. m + 1) (along es nil all))

of_dotted : (es : List Known) (t : Known) → nat_lt 0 (length (data_of es)) ≡ true → list_all is_proper (data_of es) ≡ true
    → End t.0 (object_of t.0) → Whole (Datum.List (data_of es) (Some t.0)) (pairs (map object_of (data_of es)) (object_of t.0))
of_dotted es t some all tail =
    weight-dotted (data_of es) t.0 ∙ ap (λ m. sum (map datum_weight (data_of es)) + m + 1) tail
    ∙ sym (over es (object_of t.0) some ∙ ap (λ m. m + 1) (along es (object_of t.0) all))

of_vector : (es : List Known) → list_all is_proper (data_of es) ≡ true
    → datum_weight (Datum.Vector (data_of es)) ≡ weight_along (list_of (map object_of (data_of es))) + 1
of_vector es all =
    let total : weight_along (list_of (map object_of (data_of es))) ≡ sum (map datum_weight (data_of es)) =
    along es nil all ∙ omega arith in
    weight-Vector (data_of es) ∙ ap (λ m. m + 1) (sym total)

pub weight_object : (x : Datum) → is_proper x ≡ true → datum_weight x ≡ weight (object_of x)
weight_object x proper =
    (ByKind.by_kind Whole End
    (λ n. (weight-Integer n, weight-Integer n)) (λ r. (weight-Rational r, weight-Rational r))
    (λ c. (weight-Char c, weight-Char c)) (λ b. (weight-Text b, weight-Text b))
    (λ home name. (weight-Symbol home name, λ unnamed. weight-Symbol home name ∙ sym (ap (λ b. if b then 0 else length name + 1) unnamed)))
    (λ name. (weight-Uninterned name, weight-Uninterned name))
    of_list of_dotted (λ es all. (of_vector es all, of_vector es all)) x proper).0

-- ---- a list of data
items_weight : (xs : List Datum) → AreProper xs → weight_along (list_of (objects xs)) ≡ sum (map datum_weight xs)
items_weight [] all = refl
items_weight (x ∷ xs) all =
    omega (arith, weight_object x (All-head IsProper x xs all), items_weight xs (All-tail IsProper x xs all), sum_by-cons (λ n. n) (datum_weight x) (map datum_weight xs))

pub weight_of_some : (xs : List Datum) → AreProper xs → 0 < length xs → weight (list_of (objects xs)) ≡ sum (map datum_weight xs) + 1
weight_of_some [] all some = absurd (omega (arith, some))
weight_of_some (x ∷ xs) all some = ap (λ m. m + 1) (items_weight (x ∷ xs) all)

pub weight_of_none : (xs : List Datum) → length xs ≡ 0 → weight (list_of (objects xs)) ≡ 4
weight_of_none [] none = refl
weight_of_none (x ∷ xs) none = absurd (omega (arith, none))
