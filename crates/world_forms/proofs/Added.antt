-- Texts that are added one after the other.
use Rattle.std.proofs.Common.{◌≡◌, ◌∙◌, ℕ, ◌+◌, List, [], ◌∷◌, ◌++◌, Some, take, sym, ap, zero-add, append-nil, append_assoc}
use Rattle.std.specs.List.{flat_map, range_with_len, slice_get}
use Rattle.std.proofs.lemmas.List.{map-id, take_more}
use Rattle.std.proofs.lemmas.Option.{slice_get_within, get_or_from_slice_get}
use Rattle.std.proofs.lemmas.List.FromFn.{map-range_with_len_more}
use Rattle.std.proofs.lemmas.Grind.{flat_map-append}

-- a text and then another
and_then : (t a b : List ℕ) {u v : List ℕ} → u ≡ t ++ a → v ≡ u ++ b → v ≡ t ++ (a ++ b)
and_then t a b one two = two ∙ ap (λ s. s ++ b) one ∙ append_assoc t a b

-- three texts, four, and five
pub three_added : (t a b c : List ℕ) {t₁ t₂ t₃ : List ℕ} → t₁ ≡ t ++ a → t₂ ≡ t₁ ++ b → t₃ ≡ t₂ ++ c → t₃ ≡ t ++ ((a ++ b) ++ c)
three_added t a b c one two three = and_then t (a ++ b) c (and_then t a b one two) three

pub four_added : (t a b c d : List ℕ) {t₁ t₂ t₃ t₄ : List ℕ} → t₁ ≡ t ++ a → t₂ ≡ t₁ ++ b → t₃ ≡ t₂ ++ c → t₄ ≡ t₃ ++ d
    → t₄ ≡ t ++ (((a ++ b) ++ c) ++ d)
four_added t a b c d one two three four = and_then t ((a ++ b) ++ c) d (three_added t a b c one two three) four

pub five_added : (t a b c d e : List ℕ) {t₁ t₂ t₃ t₄ t₅ : List ℕ} → t₁ ≡ t ++ a → t₂ ≡ t₁ ++ b → t₃ ≡ t₂ ++ c → t₄ ≡ t₃ ++ d → t₅ ≡ t₄ ++ e
    → t₅ ≡ t ++ ((((a ++ b) ++ c) ++ d) ++ e)
five_added t a b c d e one two three four five = and_then t (((a ++ b) ++ c) ++ d) e (four_added t a b c d one two three four) five

range_more : (n : ℕ) → range_with_len 0 (n + 1) ≡ range_with_len 0 n ++ n ∷ []
range_more n =
    sym (map-id (range_with_len 0 (n + 1))) ∙ map-range_with_len_more (λ (x : ℕ). x) 0 n n (zero-add n)
    ∙ ap (λ xs. xs ++ n ∷ []) (map-id (range_with_len 0 n))

flat_map_more : (f : ℕ → List ℕ) (n : ℕ) → flat_map f (range_with_len 0 (n + 1)) ≡ flat_map f (range_with_len 0 n) ++ f n
flat_map_more f n =
    ap (flat_map f) (range_more n) ∙ flat_map-append f (range_with_len 0 n) (n ∷ [])
    ∙ ap (λ ys. flat_map f (range_with_len 0 n) ++ ys) (append-nil (f n))

-- the text of one number more
pub range_added : (t : List ℕ) (f : ℕ → List ℕ) (n : ℕ) {u v : List ℕ} → u ≡ t ++ flat_map f (range_with_len 0 n) → v ≡ u ++ f n
    → v ≡ t ++ flat_map f (range_with_len 0 (n + 1))
range_added t f n before one = and_then t (flat_map f (range_with_len 0 n)) (f n) before one ∙ ap (λ s. t ++ s) (sym (flat_map_more f n))

-- the text of one item more
pub item_added : {A : Type 0} (t : List ℕ) (f : A → List ℕ) (xs : List A) (i : ℕ) (x : A) {u v : List ℕ} → slice_get xs i ≡ Some x
    → u ≡ t ++ flat_map f (take i xs) → v ≡ u ++ f x → v ≡ t ++ flat_map f (take (i + 1) xs)
item_added t f xs i x is before one =
    and_then t (flat_map f (take i xs)) (f x) before one
    ∙ ap (λ s. t ++ s) (
    sym (flat_map-append f (take i xs) (x ∷ []) ∙ ap (λ ys. flat_map f (take i xs) ++ ys) (append-nil (f x)))
    ∙ ap (λ y. flat_map f (take i xs ++ y ∷ [])) (sym (get_or_from_slice_get xs i x x is))
    ∙ ap (flat_map f) (sym (take_more xs i x (slice_get_within xs i x is))))
