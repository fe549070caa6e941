-- Texts that were added one after the other, and numbers that were summed up.
use Rattle.std.proofs.Common.{◌≡◌, ℕ, ◌+◌, ◌<◌, min, Bool, true, false, List, ◌++◌, length, map, take, get_or, Some, Result, Ok, Err, ◌∙◌, ap, sym, arith, append_assoc}
use Rattle.std.specs.List.{count_by, slice_get, sum_by}
use Rattle.std.specs.Prelude.{OnOk}
use Rattle.std.proofs.lemmas.List.{get_or-map, length-map, take_more}
use Rattle.std.proofs.lemmas.List.Sums.{count_by_more_no, count_by_more_yes, sum_by_push}
use Rattle.std.proofs.lemmas.Option.{get_or_from_slice_get, slice_get_within}
use Rattle.store_reports.specs.Figures.{told_number}

module _ {T E : Type 0} (result : Result T E) (t0 t1 t2 t3 t4 a b c d : List ℕ) where
  pub after_four : t1 ≡ t0 ++ a → t2 ≡ t1 ++ b → t3 ≡ t2 ++ c → OnOk result (t4 ≡ t3 ++ d) → OnOk result (t4 ≡ t0 ++ (a ++ b ++ c ++ d))
  after_four one two three four = ok result four
    where
      joined : t1 ≡ t0 ++ a → t2 ≡ t1 ++ b → t3 ≡ t2 ++ c → t4 ≡ t3 ++ d → t4 ≡ t0 ++ (a ++ b ++ c ++ d)
      joined one two three four =
          let all : t4 ≡ (((t0 ++ a) ++ b) ++ c) ++ d = four ∙ ap (λ (l : List ℕ). l ++ d) (three ∙ ap (λ (l : List ℕ). l ++ c) (two ∙ ap (λ (l : List ℕ). l ++ b) one)) in
          all ∙ simp append_assoc

      ok : (result : Result T E) → OnOk result (t4 ≡ t3 ++ d) → OnOk result (t4 ≡ t0 ++ (a ++ b ++ c ++ d))
      ok (Err e) four = tt
      ok (Ok v) four = joined one two three four

module _ {T E : Type 0} (result : Result T E) (t0 t1 t2 t3 a b c : List ℕ) where
  pub after_three : t1 ≡ t0 ++ a → t2 ≡ t1 ++ b → OnOk result (t3 ≡ t2 ++ c) → OnOk result (t3 ≡ t0 ++ (a ++ b ++ c))
  after_three one two three = ok result three
    where
      joined : t3 ≡ t2 ++ c → t3 ≡ t0 ++ (a ++ b ++ c)
      joined three =
          let all : t3 ≡ ((t0 ++ a) ++ b) ++ c = three ∙ ap (λ (l : List ℕ). l ++ c) (two ∙ ap (λ (l : List ℕ). l ++ b) one) in
          all ∙ simp append_assoc

      ok : (result : Result T E) → OnOk result (t3 ≡ t2 ++ c) → OnOk result (t3 ≡ t0 ++ (a ++ b ++ c))
      ok (Err e) three = tt
      ok (Ok v) three = joined three

-- the sum so far with one number more
pub counted : {Y X : Type 0} (v : Y → X) (f : X → ℕ) (ys : List Y) (i n m : ℕ) (y : Y) → i < length ys → n ≡ told_number (sum_by f (take i (map v ys)))
    → m ≡ min (n + f (v (get_or ys i y))) 18446744073709551615 → m ≡ told_number (sum_by f (take (i + 1) (map v ys)))
counted v f ys i n m y within so_far is =
    let inside : i < length (map v ys) = omega (arith, within, length-map ys v) in
    let more : sum_by f (take (i + 1) (map v ys)) ≡ sum_by f (take i (map v ys)) + f (get_or (map v ys) i (v y)) =
    ap (sum_by f) (take_more (map v ys) i (v y) inside) ∙ sum_by_push f (take i (map v ys)) (get_or (map v ys) i (v y)) in
    let same : f (get_or (map v ys) i (v y)) ≡ f (v (get_or ys i y)) = ap f (get_or-map v ys i y (v y) within) in
    omega (arith, so_far, is, more, same)

-- and where that number is told itself
pub counted_told : {Y X : Type 0} (v : Y → X) (f : X → ℕ) (ys : List Y) (i n k m : ℕ) (y : Y) → i < length ys → n ≡ told_number (sum_by f (take i (map v ys)))
    → k ≡ told_number (f (v (get_or ys i y))) → m ≡ told_number (n + k) → m ≡ told_number (sum_by f (take (i + 1) (map v ys)))
counted_told v f ys i n k m y within so_far told is = counted v f ys i n m y within so_far (omega (arith, told, is))

-- how many pass so far, with one item more
module _ {X : Type 0} (p : X → Bool) (xs : List X) (i n m : ℕ) (x : X) (is : slice_get xs i ≡ Some x) (so_far : n ≡ count_by p (take i xs)) where
  here : get_or xs i x ≡ x
  here = get_or_from_slice_get xs i x x is

  pub counted_yes : p x ≡ true → m ≡ n + 1 → m ≡ count_by p (take (i + 1) xs)
  counted_yes passes more =
      more ∙ ap (λ (k : ℕ). k + 1) so_far ∙ sym (count_by_more_yes p xs i x (slice_get_within xs i x is) (ap p here ∙ passes))

  pub counted_no : p x ≡ false → m ≡ n → m ≡ count_by p (take (i + 1) xs)
  counted_no fails same = same ∙ so_far ∙ sym (count_by_more_no p xs i x (slice_get_within xs i x is) (ap p here ∙ fails))

-- five texts, one after the other
pub five_added : (t0 t1 t2 t3 t4 t5 a b c d e : List ℕ) → t1 ≡ t0 ++ a → t2 ≡ t1 ++ b → t3 ≡ t2 ++ c → t4 ≡ t3 ++ d → t5 ≡ t4 ++ e → t5 ≡ t0 ++ (a ++ b ++ c ++ d ++ e)
five_added t0 t1 t2 t3 t4 t5 a b c d e one two three four five =
    let all : t5 ≡ ((((t0 ++ a) ++ b) ++ c) ++ d) ++ e =
    five ∙ ap (λ (l : List ℕ). l ++ e) (four ∙ ap (λ (l : List ℕ). l ++ d) (three ∙ ap (λ (l : List ℕ). l ++ c) (two ∙ ap (λ (l : List ℕ). l ++ b) one))) in
    all ∙ simp append_assoc
