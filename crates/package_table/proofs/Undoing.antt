-- Lists that grow and shrink at their end, as journals do.
--     at_last      the last of a list, and what a write to it leaves
--     no_more, take_seam, get_seam      the list with nothing, its first part, and what comes after that
use Rattle.std.proofs.Common.{◌≡◌, ◌++◌, ◌+◌, ◌-◌, ◌<◌, ℕ, List, [], ◌∷◌, length, map, slice_index_or, slice_set, refl, sym, ap, ◌∙◌, arith, add-one, Result, Ok, Err, OnOk, take, Some}
use Rattle.std.specs.List.{slice_get}

later : {A : Type 0} (y : A) (ys : List A) (i : ℕ) (d : A) → slice_index_or (y ∷ ys) (i + 1) d ≡ slice_index_or ys i d
later y ys i d = rw (add-one i) refl

set_later : {A : Type 0} (y : A) (ys : List A) (i : ℕ) (w : A) → slice_set (y ∷ ys) (i + 1) w ≡ y ∷ slice_set ys i w
set_later y ys i w = rw (add-one i) refl

-- x is the last of xs, at n, and a write there leaves the others
abbrev pub IsLast : {A : Type 0} → List A → ℕ → A → Type 0
IsLast {A} xs n x = (before : List A) × (xs ≡ before ++ x ∷ []) × ((w : A) → slice_set xs n w ≡ before ++ w ∷ [])

longer : {A : Type 0} (y : A) (zs : List A) (x : A) (n k : ℕ) → k ≡ n + 1 → IsLast zs n x → IsLast (y ∷ zs) k x
longer y zs x n k next (before, split, write) =
    (y ∷ before, ap (λ ys. y ∷ ys) split, λ w. ap (λ i. slice_set (y ∷ zs) i w) next ∙ set_later y zs n w ∙ ap (λ ys. y ∷ ys) (write w))

pub at_last : {A : Type 0} (xs : List A) (x : A) → 0 < length xs → x ≡ slice_index_or xs (length xs - 1) x → IsLast xs (length xs - 1) x
at_last [] x some is = absurd (omega (arith, some))
at_last (y ∷ []) x some is = ([], ap (λ z. z ∷ []) (sym is), λ w. refl)
at_last (y ∷ z ∷ xs) x some is =
    let n : ℕ = length (z ∷ xs) - 1 in
    let next : length (y ∷ z ∷ xs) - 1 ≡ n + 1 = omega arith in
    let same : slice_index_or (y ∷ z ∷ xs) (length (y ∷ z ∷ xs) - 1) x ≡ slice_index_or (z ∷ xs) n x = ap (λ i. slice_index_or (y ∷ z ∷ xs) i x) next ∙ later y (z ∷ xs) n x in
    longer y (z ∷ xs) x n (length (y ∷ z ∷ xs) - 1) next (at_last (z ∷ xs) x (omega arith) (is ∙ same))

pub on_ok : {T E : Type 0} {P Q : Type 0} (r : Result T E) → (P → Q) → OnOk r P → OnOk r Q
on_ok (Ok x) f p = f p
on_ok (Err e) f p = p

pub map-push : {A B : Type 0} (f : A → B) (xs : List A) (x : A) → map f (xs ++ x ∷ []) ≡ map f xs ++ f x ∷ []
map-push f [] x = refl
map-push f (y ∷ xs) x = ap (λ ys. f y ∷ ys) (map-push f xs x)

pub no_more : {A : Type 0} (xs : List A) → length xs ≡ 0 → xs ≡ []
no_more [] e = refl
no_more (x ∷ xs) e = absurd (omega arith)

append_assoc : {A : Type 0} (xs ys zs : List A) → (xs ++ ys) ++ zs ≡ xs ++ (ys ++ zs)
append_assoc [] ys zs = refl
append_assoc (x ∷ xs) ys zs = ap (λ ls. x ∷ ls) (append_assoc xs ys zs)

pub append_nil : {A : Type 0} (xs : List A) → xs ≡ xs ++ []
append_nil [] = refl
append_nil (x ∷ xs) = ap (λ ys. x ∷ ys) (append_nil xs)

pub take_seam : {A : Type 0} (xs ys : List A) → take (length xs) (xs ++ ys) ≡ xs
take_seam [] ys = refl
take_seam (x ∷ xs) ys = ap (λ ls. x ∷ ls) (take_seam xs ys)

pub get_seam : {A : Type 0} (xs : List A) (y : A) (ys : List A) → slice_get (xs ++ y ∷ ys) (length xs) ≡ Some y
get_seam [] y ys = refl
get_seam (x ∷ xs) y ys = get_seam xs y ys
