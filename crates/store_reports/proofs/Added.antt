-- Texts that are added item by item.
use Rattle.std.proofs.Common.{◌≡◌, ◌∙◌, ℕ, ◌+◌, List, [], ◌∷◌, ◌++◌, Some, take, sym, ap, append-nil, append_assoc}
use Rattle.std.specs.List.{flat_map, slice_get}
use Rattle.std.proofs.lemmas.List.{take_more}
use Rattle.std.proofs.lemmas.Option.{slice_get_within, get_or_from_slice_get}
use Rattle.std.proofs.lemmas.Grind.{flat_map-append}

-- the text of one item more
pub item_added : {A : Type 0} (t : List ℕ) (f : A → List ℕ) (xs : List A) (i : ℕ) (x : A) {u v : List ℕ} → slice_get xs i ≡ Some x
    → u ≡ t ++ flat_map f (take i xs) → v ≡ u ++ f x → v ≡ t ++ flat_map f (take (i + 1) xs)
item_added t f xs i x is before one =
    one ∙ ap (λ s. s ++ f x) before ∙ append_assoc t (flat_map f (take i xs)) (f x)
    ∙ ap (λ s. t ++ s) (
    sym (flat_map-append f (take i xs) (x ∷ []) ∙ ap (λ ys. flat_map f (take i xs) ++ ys) (append-nil (f x)))
    ∙ ap (λ y. flat_map f (take i xs ++ y ∷ [])) (sym (get_or_from_slice_get xs i x x is))
    ∙ ap (flat_map f) (sym (take_more xs i x (slice_get_within xs i x is))))
