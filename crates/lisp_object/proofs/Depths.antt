-- The depth of a proper datum is the depth of the object that it stands for.
use Rattle.std.proofs.Common.{◌≡◌, ℕ, ◌+◌, max, List, [], ◌∷◌, length, map, None, Some, true, nat_lt, refl, sym, ap, ◌∙◌, arith}
use Rattle.std.specs.Prelude.{fold}
use Rattle.std.specs.List.{list_all}
use Rattle.std.proofs.lemmas.Bool.{and_parts}
use Rattle.lisp_object.specs.declared.datum.Datum
use Rattle.lisp_object.specs.declared.datum.Datum.{Datum}
use Rattle.lisp_object.specs.Object.{Object, nil, pairs, list_of, object_depth, depth_along}
use Rattle.lisp_object.specs.Datum.{object_of, depth, depth_step, greatest, is_proper}
use Rattle.lisp_object.proofs.Objects.{fold-Integer, fold-Rational, fold-Char, fold-Text, fold-Symbol, fold-Uninterned, depth-List, depth-dotted, depth-Vector}
use Rattle.lisp_object.proofs.ByKind

fold-max : (a : ℕ) (xs : List ℕ) → fold max a xs ≡ max a (greatest xs)
fold-max a [] = omega arith
fold-max a (x ∷ xs) = omega (arith, fold-max (max a x) xs, fold-max (max 0 x) xs)

-- the depth is that of the object, and where the datum ends a list too
abbrev Whole : Datum → Object → Type 0
Whole x o = depth x ≡ object_depth o

abbrev End : Datum → Object → Type 0
End x o = depth x ≡ depth_along o

abbrev Known : Type 0
Known = ByKind.Known Whole End

abbrev data_of : List Known → List Datum
data_of es = ByKind.data_of Whole End es

along : (es : List Known) (end : Object) → list_all is_proper (data_of es) ≡ true
    → depth_along (pairs (map object_of (data_of es)) end) ≡ max (greatest (map depth (data_of es))) (depth_along end)
along [] end all = omega arith
along (e ∷ es) end all =
    let parts : (is_proper e.0 ≡ true) × (list_all is_proper (data_of es) ≡ true) =
    and_parts (is_proper e.0) (list_all is_proper (data_of es)) all in
    omega (arith, (e.1 parts.0).0, along es end parts.1, fold-max (max 0 (depth e.0)) (map depth (data_of es)))

-- where there is an item, the depth of the pairs is one more than that of their deepest part
over : (es : List Known) (end : Object) → nat_lt 0 (length (data_of es)) ≡ true
    → object_depth (pairs (map object_of (data_of es)) end) ≡ depth_along (pairs (map object_of (data_of es)) end) + 1
over [] end some = absurd (cc)
over (e ∷ es) end some = refl

of_list : (es : List Known) → nat_lt 0 (length (data_of es)) ≡ true → list_all is_proper (data_of es) ≡ true
    → Whole (Datum.List (data_of es) None) (pairs (map object_of (data_of es)) nil)
of_list es some all = depth-List (data_of es) ∙ sym (over es nil some ∙ ap (λ m. m + 1) (along es nil all))

of_dotted : (es : List Known) (t : Known) → nat_lt 0 (length (data_of es)) ≡ true → list_all is_proper (data_of es) ≡ true
    → End t.0 (object_of t.0) → Whole (Datum.List (data_of es) (Some t.0)) (pairs (map object_of (data_of es)) (object_of t.0))
of_dotted es t some all tail =
    depth-dotted (data_of es) t.0 ∙ ap (λ m. max (greatest (map depth (data_of es))) m + 1) tail
    ∙ sym (over es (object_of t.0) some ∙ ap (λ m. m + 1) (along es (object_of t.0) all))

of_vector : (es : List Known) → list_all is_proper (data_of es) ≡ true
    → depth (Datum.Vector (data_of es)) ≡ depth_along (list_of (map object_of (data_of es))) + 1
of_vector es all =
    let deep : depth_along (list_of (map object_of (data_of es))) ≡ greatest (map depth (data_of es)) =
    along es nil all ∙ omega arith in
    depth-Vector (data_of es) ∙ ap (λ m. m + 1) (sym deep)

-- an atom has depth 0 either way
pub depth_object : (x : Datum) → is_proper x ≡ true → depth x ≡ object_depth (object_of x)
depth_object x proper =
    (ByKind.by_kind Whole End
    (λ n. (fold-Integer depth_step n, fold-Integer depth_step n)) (λ r. (fold-Rational depth_step r, fold-Rational depth_step r))
    (λ c. (fold-Char depth_step c, fold-Char depth_step c)) (λ b. (fold-Text depth_step b, fold-Text depth_step b))
    (λ home name. (fold-Symbol depth_step home name, λ _. fold-Symbol depth_step home name))
    (λ name. (fold-Uninterned depth_step name, fold-Uninterned depth_step name))
    of_list of_dotted (λ es all. (of_vector es all, of_vector es all)) x proper).0
