-- Vectors with a length: the cases of the definition, and what data repeated at the end are.
use Rattle.std.proofs.Common.{◌≡◌, ℕ, zero, suc, ◌+◌, ◌*◌, ◌-◌, ◌<◌, ◌≤◌, Bool, true, false, inl, inr, ◌⊎◌, List, [], ◌∷◌, ◌++◌, length, map, replicate, take, get_or, Option, Some, None, Err, refl, sym, ap, ◌∙◌, arith, add-one, append-nil, append_assoc}
use Rattle.std.specs.Prelude.{sum, min, nat_lt, nat_le, if◌then◌else◌}
use Rattle.std.proofs.Math.Nat.{min-eq_left, min-eq_right, le-mul_of_pos_right}
use Rattle.std.specs.List.{list_all}
use Rattle.std.proofs.lemmas.Bool.{and_parts, and_from, lt-ltb, le-ltb, le-leb, lt-leb, leb-true, leb-false}
use Rattle.std.proofs.Math.Dec.{eqb-suc-zero}
use Rattle.std.proofs.lemmas.List.{map-append, length-map}
use Rattle.std.proofs.lemmas.List.Folds.{list_all-append}
use Rattle.std.proofs.lemmas.List.Sums.{sum_by-cons}
use Rattle.lisp_object.specs.declared.datum.Datum
use Rattle.lisp_object.specs.declared.datum.Datum.{Datum}
use Rattle.lisp_object.specs.Object.{Object, vector, list_of, object_size}
use Rattle.lisp_object.specs.Datum.{object_of, is_proper, size}
use Rattle.lisp_object.proofs.Objects.{object_of-Vector, size-Vector}
use Rattle.lisp_object.proofs.Properness.{is_proper-Vector}
use Rattle.lisp_object.proofs.Sizes.{size_object}
use Rattle.std_macros.specs.declared.refusal.StdRefusal.TheVariants.{VectorLength}
use Rattle.std_macros.specs.declared.vectors.TheConstants.{LARGEST_REPEATED_VECTOR}
use Rattle.std_macros.specs.Values.{gives_one, last_of, bounded_value, vector_with, vector_of}

-- ---- the last one

last_found : (xs : List Object) (y : Object) → last_of (xs ++ y ∷ []) ≡ Some y
unfolding last_of
last_found [] y = refl
last_found (x ∷ []) y = refl
last_found (x ∷ z ∷ zs) y = last_found (z ∷ zs) y

no_last : (xs : List Object) → last_of xs ≡ None → xs ≡ []
unfolding last_of
no_last [] e = refl
no_last (x ∷ []) e = absurd cc
no_last (x ∷ y ∷ ys) e = let none : y ∷ ys ≡ [] = no_last (y ∷ ys) e in absurd cc

-- ---- the cases without repeating

pub vector_long : (n : ℕ) (xs : List Object) → n < length xs → vector_of (Some n) xs ≡ Err VectorLength
vector_long n xs lt = by (last_of xs) refl
  where
    by : (o : Option Object) → last_of xs ≡ o → vector_with n xs o ≡ Err VectorLength
    by None e = let none : length xs ≡ 0 = ap length (no_last xs e) in absurd (omega arith)
    by (Some y) e = rw (lt-ltb n (length xs) lt) refl

pub vector_even : (n : ℕ) (xs : List Object) → n ≡ length xs → vector_of (Some n) xs ≡ gives_one (vector (list_of xs))
vector_even n xs same = by (last_of xs) refl
  where
    by : (o : Option Object) → last_of xs ≡ o → vector_with n xs o ≡ gives_one (vector (list_of xs))
    by None e =
        let none : xs ≡ [] = no_last xs e in
        let zero_length : n ≡ 0 = same ∙ ap length none in
        rw zero_length (ap (λ (ys : List Object). gives_one (vector (list_of ys))) (sym none))
    by (Some y) e =
        let first : nat_lt n (length xs) ≡ false = le-ltb n (length xs) (omega arith) in
        let second : nat_lt (length xs) n ≡ false = le-ltb (length xs) n (omega arith) in
        let none : n - length xs ≡ 0 = omega arith in
        rw (first, second, none) (ap (λ (ys : List Object). gives_one (vector (list_of ys))) (append-nil xs))

pub vector_none : (n : ℕ) → 0 < n → vector_of (Some n) [] ≡ Err VectorLength
unfolding last_of
vector_none zero lt = absurd (omega arith)
vector_none (suc n) lt = rw (eqb-suc-zero n) refl

pub vector_of_none : (n : ℕ) (items : List Datum) → 0 < n → length items ≡ 0 → vector_of (Some n) (map object_of items) ≡ Err VectorLength
vector_of_none n [] some none = vector_none n some
vector_of_none n (x ∷ items) some none = absurd (omega arith)

-- ---- data that are repeated

sum_copies : (k : ℕ) (x : Datum) → sum (map size (replicate k x)) ≡ k * size x
sum_copies zero x = omega arith
sum_copies (suc k) x = sum_by-cons (λ n. n) (size x) (map size (replicate k x)) ∙ (rw (sum_copies k x) (omega arith))

sum_joined : (xs ys : List Datum) → sum (map size (xs ++ ys)) ≡ sum (map size xs) + sum (map size ys)
sum_joined [] ys = omega arith
sum_joined (x ∷ xs) ys =
    sum_by-cons (λ n. n) (size x) (map size (xs ++ ys)) ∙ (rw (sum_joined xs ys, sum_by-cons (λ n. n) (size x) (map size xs)) (omega arith))

proper_copies : (k : ℕ) (x : Datum) → is_proper x ≡ true → list_all is_proper (replicate k x) ≡ true
proper_copies zero x e = refl
proper_copies (suc k) x e = and_from _ _ e (proper_copies k x e)

objects_of_copies : (k : ℕ) (x : Datum) → map object_of (replicate k x) ≡ replicate k (object_of x)
objects_of_copies zero x = refl
objects_of_copies (suc k) x = ap (λ (xs : List Object). object_of x ∷ xs) (objects_of_copies k x)

-- once more in front of the copies
once_more : (front : List Datum) (last : Datum) (k : ℕ) → front ++ replicate (k + 1) last ≡ (front ++ last ∷ []) ++ replicate k last
once_more front last k = rw (add-one k) (sym (append_assoc front (last ∷ []) (replicate k last)))

pub all_proper : (front : List Datum) (last : Datum) (k : ℕ) → list_all is_proper (front ++ last ∷ []) ≡ true
    → list_all is_proper (front ++ replicate (k + 1) last) ≡ true
all_proper front last k e =
    let both = and_parts (list_all is_proper front) (list_all is_proper (last ∷ [])) (sym (list_all-append is_proper front (last ∷ [])) ∙ e) in
    let one = and_parts (is_proper last) true both.1 in
    list_all-append is_proper front (replicate (k + 1) last) ∙ and_from _ _ both.0 (proper_copies (k + 1) last one.0)

size_of_vector : (ys : List Datum) → list_all is_proper ys ≡ true → object_size (vector (list_of (map object_of ys))) ≡ sum (map size ys) + 1
size_of_vector ys e =
    ap object_size (sym (object_of-Vector ys)) ∙ sym (size_object (Datum.Vector ys) (is_proper-Vector ys ∙ e)) ∙ size-Vector ys

size_repeated : (front : List Datum) (last : Datum) (k : ℕ) → list_all is_proper (front ++ last ∷ []) ≡ true
    → object_size (vector (list_of (map object_of (front ++ replicate (k + 1) last)))) ≡ sum (map size front) + (k + 1) * size last + 1
size_repeated front last k e =
    size_of_vector (front ++ replicate (k + 1) last) (all_proper front last k e)
    ∙ ap (λ (n : ℕ). n + 1) (sum_joined front (replicate (k + 1) last) ∙ ap (λ (n : ℕ). sum (map size front) + n) (sum_copies (k + 1) last))

objects_repeated : (front : List Datum) (last : Datum) (k : ℕ)
    → map object_of (front ++ last ∷ []) ++ replicate k (object_of last) ≡ map object_of (front ++ replicate (k + 1) last)
objects_repeated front last k =
    ap (λ (xs : List Object). map object_of (front ++ last ∷ []) ++ xs) (sym (objects_of_copies k last))
    ∙ sym (map-append object_of (front ++ last ∷ []) (replicate k last)) ∙ ap (map object_of) (sym (once_more front last k))

bounded_by : (x : Object) (n : ℕ) (b : Bool) → object_size x ≡ n → nat_le n LARGEST_REPEATED_VECTOR ≡ b
    → bounded_value true x ≡ (if b then gives_one x else Err VectorLength)
bounded_by x n true e below =
    let large : nat_lt LARGEST_REPEATED_VECTOR (object_size x) ≡ false = le-ltb LARGEST_REPEATED_VECTOR (object_size x) (omega (arith, leb-true n LARGEST_REPEATED_VECTOR below)) in
    rw large refl
bounded_by x n false e below =
    let large : nat_lt LARGEST_REPEATED_VECTOR (object_size x) ≡ true = lt-ltb LARGEST_REPEATED_VECTOR (object_size x) (omega (arith, leb-false n LARGEST_REPEATED_VECTOR below)) in
    rw large refl

pub vector_repeats : (front : List Datum) (last : Datum) (n copies : ℕ) (b : Bool) → list_all is_proper (front ++ last ∷ []) ≡ true
    → n ≡ length (front ++ last ∷ []) + copies → 0 < copies
    → nat_le (sum (map size front) + (copies + 1) * size last + 1) LARGEST_REPEATED_VECTOR ≡ b
    → vector_of (Some n) (map object_of (front ++ last ∷ []))
    ≡ (if b then gives_one (vector (list_of (map object_of (front ++ replicate (copies + 1) last)))) else Err VectorLength)
vector_repeats front last n copies b proper count some e =
    let xs = map object_of (front ++ last ∷ []) in
    let ys = map object_of (front ++ replicate (copies + 1) last) in
    let there : last_of xs ≡ Some (object_of last) = ap last_of (map-append object_of front (last ∷ [])) ∙ last_found (map object_of front) (object_of last) in
    let many : length xs ≡ length (front ++ last ∷ []) = length-map (front ++ last ∷ []) object_of in
    let first : nat_lt n (length xs) ≡ false = le-ltb n (length xs) (omega arith) in
    let second : nat_lt (length xs) n ≡ true = lt-ltb (length xs) n (omega arith) in
    let missing : n - length xs ≡ copies = omega arith in
    let rest : vector_with n xs (Some (object_of last)) ≡ bounded_value true (vector (list_of (xs ++ replicate copies (object_of last)))) = rw (first, second, missing) refl in
    ap (vector_with n xs) there ∙ rest
    ∙ ap (λ (zs : List Object). bounded_value true (vector (list_of zs))) (objects_repeated front last copies)
    ∙ bounded_by (vector (list_of ys)) _ b (size_repeated front last copies proper) e

-- ---- the room for them

same_test : (a b c d : ℕ) (t : Bool) → nat_le a b ≡ t → (a ≤ b → c ≤ d) → (b < a → d < c) → t ≡ nat_le c d
same_test a b c d true e on off = sym (le-leb c d (on (leb-true a b e)))
same_test a b c d false e on off = sym (lt-leb c d (off (leb-false a b e)))

-- a size that is kept as at most the largest number that its type holds
held : (size most : ℕ) (t : Bool) → nat_le size most ≡ t → (min size most ≡ size) × (size ≤ most) ⊎ (min size most ≡ most) × (most < size)
held size most true e = inl (min-eq_left (leb-true size most e), leb-true size most e)
held size most false e = let below : most < size = leb-false size most e in inr (min-eq_right (omega arith), below)

pub times_room : (total size times largest most : ℕ) → total + 1 ≤ largest → largest ≤ most → 0 < times
    → nat_le (times * min size most) (largest - 1 - total) ≡ nat_le (total + times * size + 1) largest
times_room total size times largest most fits within some =
    elim (held size most (nat_le size most) refl) [
      | inl small ↦
          ap (λ (n : ℕ). nat_le (times * n) (largest - 1 - total)) small.0
          ∙ same_test (times * size) (largest - 1 - total) (total + times * size + 1) largest _ refl (λ le. omega arith) (λ lt. omega arith)
      | inr large ↦
          let held_grows : most ≤ most * times = le-mul_of_pos_right most some in
          let grows : size ≤ size * times = le-mul_of_pos_right size some in
          ap (λ (n : ℕ). nat_le (times * n) (largest - 1 - total)) large.0
          ∙ lt-leb (times * most) (largest - 1 - total) (omega arith)
          ∙ sym (lt-leb (total + times * size + 1) largest (omega arith))
    ]

pub no_room : (total more largest : ℕ) → (total ≤ largest - 1 → ⊥) → 0 < largest → nat_le (total + more + 1) largest ≡ false
no_room total more largest none some = by (nat_le total (largest - 1)) refl
  where
    by : (t : Bool) → nat_le total (largest - 1) ≡ t → nat_le (total + more + 1) largest ≡ false
    by true e = absurd (none (leb-true total (largest - 1) e))
    by false e = let over : largest - 1 < total = leb-false total (largest - 1) e in lt-leb (total + more + 1) largest (omega arith)

-- ---- loops over data

copies_after : (k : ℕ) (x : Datum) → replicate k x ++ x ∷ [] ≡ replicate (suc k) x
copies_after zero x = refl
copies_after (suc k) x = ap (λ (xs : List Datum). x ∷ xs) (copies_after k x)

pub one_copy_more : (front items : List Datum) (last x : Datum) (k : ℕ) → items ≡ front ++ replicate k last → x ≡ last
    → items ++ x ∷ [] ≡ front ++ replicate (k + 1) last
one_copy_more front items last x k e f =
    (λ i. e i ++ f i ∷ []) ∙ append_assoc front (replicate k last) (last ∷ [])
    ∙ (rw (add-one k) (ap (λ (xs : List Datum). front ++ xs) (copies_after k last)))

-- the sizes up to an item are not more than all of them
pub sum_within : (xs : List Datum) (i : ℕ) (d : Datum) → i < length xs → sum (map size (take i xs)) + size (get_or xs i d) ≤ sum (map size xs)
sum_within [] i d lt = absurd (omega arith)
sum_within (x ∷ xs) zero d lt = rw (sum_by-cons (λ n. n) (size x) (map size xs)) (omega arith)
sum_within (x ∷ xs) (suc i) d lt =
    let rest : sum (map size (take i xs)) + size (get_or xs i d) ≤ sum (map size xs) = sum_within xs i d (omega arith) in
    rw (sum_by-cons (λ n. n) (size x) (map size xs), sum_by-cons (λ n. n) (size x) (map size (take i xs))) (omega arith)
