-- The options among words, word by word.
use Rattle.std.proofs.Common.{◌≡◌, ◌∙◌, ℕ, ◌+◌, ◌<◌, ◌≤◌, ◌||◌, Bool, true, false, List, ◌∷◌, length, map, drop, get_or, refl, sym, ap, if◌then◌else◌, codes}
use Rattle.std.specs.Str.{bytes_eq}
use Rattle.std.proofs.lemmas.List.{at_drop_more, at_drop_all}
use Rattle.clap.specs.Words.{Text}
use Rattle.command_words.specs.Ways.{has_option, is_option}

module _ {A : Type 0} (text : A → Text) (option : Text) (xs : List A) (i : ℕ) where
  abbrev is_among : List A → Bool
  is_among ys = has_option option (map text ys)

  step : (x : A) → is_among (x ∷ drop (i + 1) xs) ≡ (if bytes_eq (text x) (codes "--") then false else (is_option option (text x) || has_option option (map text (drop (i + 1) xs))))
  unfolding has_option
  step x = refl

  module _ (x : A) (word : Text) (within : i < length xs) (is : x ≡ get_or xs i x) (word_is : word ≡ text x)
      (so_far : has_option option (map text (drop i xs)) ≡ has_option option (map text xs)) where
    turn : has_option option (map text (drop i xs)) ≡ (if bytes_eq word (codes "--") then false else (is_option option word || has_option option (map text (drop (i + 1) xs))))
    turn = at_drop_more is_among xs i x within ∙ ap (λ (y : A). is_among (y ∷ drop (i + 1) xs)) (sym is) ∙ rw word_is (step x)

    pub ends : bytes_eq word (codes "--") ≡ true → false ≡ has_option option (map text xs)
    ends hyphens = sym (rw hyphens at turn) ∙ so_far

    pub finds : bytes_eq word (codes "--") ≡ false → is_option option word ≡ true → true ≡ has_option option (map text xs)
    finds no_hyphens found = sym (rw (no_hyphens, found) at turn) ∙ so_far

    pub goes_on : bytes_eq word (codes "--") ≡ false → is_option option word ≡ false
        → has_option option (map text (drop (i + 1) xs)) ≡ has_option option (map text xs)
    goes_on no_hyphens other = sym (rw (no_hyphens, other) at turn) ∙ so_far

  pub at_end : length xs ≤ i → has_option option (map text (drop i xs)) ≡ has_option option (map text xs) → false ≡ has_option option (map text xs)
  unfolding has_option
  at_end none so_far = sym (at_drop_all is_among xs i none) ∙ so_far
