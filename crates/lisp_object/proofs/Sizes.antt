-- The size of a proper datum is the size of the object that it stands for.
use Rattle.std.proofs.Common.{◌≡◌, ℕ, ◌+◌, List, [], ◌∷◌, length, map, None, Some, true, false, nat_lt, refl, sym, ap, ◌∙◌, arith}
use Rattle.std.specs.Prelude.{sum, if◌then◌else◌}
use Rattle.std.specs.List.{list_all}
use Rattle.std.proofs.lemmas.List.Sums.{sum_by-cons}
use Rattle.std.proofs.lemmas.Bool.{and_parts}
use Rattle.lisp_object.specs.declared.datum.Datum
use Rattle.lisp_object.specs.declared.datum.Datum.{Datum}
use Rattle.lisp_object.specs.Object.{Object, nil, is_nil, pairs, list_of, object_size, size_along}
use Rattle.lisp_object.specs.Datum.{object_of, size, size_step, is_proper}
use Rattle.lisp_object.proofs.Objects.{fold-Integer, fold-Rational, fold-Char, fold-Text, fold-Symbol, fold-Uninterned, size-List, size-dotted, size-Vector}
use Rattle.lisp_object.proofs.ByKind

-- the size is that of the object, and where the datum ends a list too
abbrev Whole : Datum → Object → Type 0
Whole x o = size x ≡ object_size o

abbrev End : Datum → Object → Type 0
End x o = size x ≡ size_along o

abbrev Known : Type 0
Known = ByKind.Known Whole End

abbrev data_of : List Known → List Datum
data_of es = ByKind.data_of Whole End es

along : (es : List Known) (end : Object) → list_all is_proper (data_of es) ≡ true
    → size_along (pairs (map object_of (data_of es)) end) ≡ sum (map size (data_of es)) + size_along end
along [] end all = omega arith
along (e ∷ es) end all =
    let parts : (is_proper e.0 ≡ true) × (list_all is_proper (data_of es) ≡ true) =
    and_parts (is_proper e.0) (list_all is_proper (data_of es)) all in
    omega (arith, (e.1 parts.0).0, along es end parts.1, sum_by-cons (λ n. n) (size e.0) (map size (data_of es)))

-- where there is an item, the size of the pairs is one more than that of their parts together
over : (es : List Known) (end : Object) → nat_lt 0 (length (data_of es)) ≡ true
    → object_size (pairs (map object_of (data_of es)) end) ≡ size_along (pairs (map object_of (data_of es)) end) + 1
over [] end some = absurd (cc)
over (e ∷ es) end some = refl

of_list : (es : List Known) → nat_lt 0 (length (data_of es)) ≡ true → list_all is_proper (data_of es) ≡ true
    → Whole (Datum.List (data_of es) None) (pairs (map object_of (data_of es)) nil)
of_list es some all = size-List (data_of es) ∙ sym (over es nil some ∙ ap (λ m. m + 1) (along es nil all))

of_dotted : (es : List Known) (t : Known) → nat_lt 0 (length (data_of es)) ≡ true → list_all is_proper (data_of es) ≡ true
    → End t.0 (object_of t.0) → Whole (Datum.List (data_of es) (Some t.0)) (pairs (map object_of (data_of es)) (object_of t.0))
of_dotted es t some all tail =
    size-dotted (data_of es) t.0 ∙ ap (λ m. sum (map size (data_of es)) + m + 1) tail
    ∙ sym (over es (object_of t.0) some ∙ ap (λ m. m + 1) (along es (object_of t.0) all))

of_vector : (es : List Known) → list_all is_proper (data_of es) ≡ true
    → size (Datum.Vector (data_of es)) ≡ size_along (list_of (map object_of (data_of es))) + 1
of_vector es all =
    let total : size_along (list_of (map object_of (data_of es))) ≡ sum (map size (data_of es)) =
    along es nil all ∙ omega arith in
    size-Vector (data_of es) ∙ ap (λ m. m + 1) (sym total)

-- an atom has size 1 either way; NIL at the end of a list has none
pub size_object : (x : Datum) → is_proper x ≡ true → size x ≡ object_size (object_of x)
size_object x proper =
    (ByKind.by_kind Whole End
    (λ n. (fold-Integer size_step n, fold-Integer size_step n)) (λ r. (fold-Rational size_step r, fold-Rational size_step r))
    (λ c. (fold-Char size_step c, fold-Char size_step c)) (λ b. (fold-Text size_step b, fold-Text size_step b))
    (λ home name. (fold-Symbol size_step home name, λ unnamed. fold-Symbol size_step home name ∙ sym (ap (λ b. if b then 0 else 1) unnamed)))
    (λ name. (fold-Uninterned size_step name, fold-Uninterned size_step name))
    of_list of_dotted (λ es all. (of_vector es all, of_vector es all)) x proper).0
