-- The list of the rows of property lists is written row by row.
use Rattle.std.proofs.Common.{◌≡◌, ℕ, suc, ◌-◌, ◌≤◌, Bool, true, false, if◌then◌else◌, List, [], ◌∷◌, ◌++◌, length, map, filter, take, drop, get_or, append_assoc, append-nil, refl, sym, ap, ◌∙◌, arith}
use Rattle.std.specs.Prelude.{codes}
use Rattle.std.specs.List.{flat_map, list_all}
use Rattle.std.proofs.lemmas.List.Folds.{list_all-map}
use Rattle.std.proofs.Math.Seq.{take-length}
use Rattle.lisp_object.specs.Object.{Object, list_of}
use Rattle.package_table.specs.Table.{Name}
use Rattle.canon_printer.specs.Written.{written, written_rest}

module _ {A : Type 0} (prefix : Name → Name → List ℕ) (f : A → Object) where
  -- the rows after one, each after a space, and the parenthesis
  others_written : (xs : List A) → written_rest prefix (list_of (map f xs)) ≡ flat_map (λ x. codes " " ++ written prefix (f x)) xs ++ codes ")"
  others_written [] = refl
  others_written (x ∷ xs) =
      ap (λ t. (codes " " ++ written prefix (f x)) ++ t) (others_written xs)
      ∙ sym (append_assoc (codes " " ++ written prefix (f x)) (flat_map (λ x. codes " " ++ written prefix (f x)) xs) (codes ")"))

  -- the whole list, after any text
  rows_written : (text : List ℕ) (x : A) (xs : List A)
      → (((text ++ codes "(") ++ written prefix (f x)) ++ flat_map (λ x. codes " " ++ written prefix (f x)) xs) ++ codes ")"
      ≡ text ++ written prefix (list_of (map f (x ∷ xs)))
  rows_written text x xs =
      let start : List ℕ = codes "(" ++ written prefix (f x) in
      let others : List ℕ = flat_map (λ x. codes " " ++ written prefix (f x)) xs in
      ap (λ t. (t ++ others) ++ codes ")") (append_assoc text (codes "(") (written prefix (f x)))
      ∙ append_assoc (text ++ start) others (codes ")") ∙ append_assoc text start (others ++ codes ")")
      ∙ ap (λ t. text ++ (start ++ t)) (sym (others_written xs))

  -- the same, part by part
  pub parts_written : (t₀ t₁ t₂ t₃ t₄ : List ℕ) (x : A) (xs : List A) → t₁ ≡ t₀ ++ codes "(" → t₂ ≡ t₁ ++ written prefix (f x)
      → t₃ ≡ t₂ ++ flat_map (λ x. codes " " ++ written prefix (f x)) xs → t₄ ≡ t₃ ++ codes ")" → t₄ ≡ t₀ ++ written prefix (list_of (map f (x ∷ xs)))
  parts_written t₀ t₁ t₂ t₃ t₄ x xs one two three four =
      let others : List ℕ = flat_map (λ x. codes " " ++ written prefix (f x)) xs in
      four ∙ ap (λ t. t ++ codes ")") (three ∙ ap (λ t. t ++ others) (two ∙ ap (λ t. t ++ written prefix (f x)) one)) ∙ rows_written t₀ x xs

-- a list by its first item and the later ones
pub first_and_others : {A : Type 0} (xs : List A) (first : A) → 1 ≤ length xs → first ≡ get_or xs 0 first → xs ≡ first ∷ take (length xs - 1) (drop 1 xs)
first_and_others [] first some is = absurd (omega arith)
first_and_others (x ∷ xs) first some is =
    let all : take (suc (length xs) - 1) xs ≡ xs = ap (λ n. take n xs) (let h : suc (length xs) - 1 ≡ length xs = omega arith in h) ∙ take-length xs in
    λ i. sym is i ∷ sym all i

-- the first item of a list is there whatever is given for none
pub first_either : {A : Type 0} (xs : List A) (a b : A) → 1 ≤ length xs → get_or xs 0 a ≡ get_or xs 0 b
first_either [] a b some = absurd (omega arith)
first_either (x ∷ xs) a b some = refl

-- what holds of each image of a list, for its first item and the later ones
pub each_passes : {A B : Type 0} (P : B → Bool) (xs ys : List A) (first : A) (g : A → B) {zs : List B} → 1 ≤ length xs → first ≡ get_or xs 0 first → xs ≡ ys
    → map g ys ≡ zs → list_all P zs ≡ true → list_all (λ x. P (g x)) (first ∷ take (length xs - 1) (drop 1 xs)) ≡ true
each_passes P xs ys first g some is same images all =
    ap (list_all (λ x. P (g x))) (sym (first_and_others xs first some is) ∙ same) ∙ sym (list_all-map P g ys) ∙ ap (list_all P) images ∙ all

mapped_twice : {A B C : Type 0} (f : B → C) (g : A → B) (xs : List A) → map (λ x. f (g x)) xs ≡ map f (map g xs)
mapped_twice f g [] = refl
mapped_twice f g (x ∷ xs) = ap (λ ys. f (g x) ∷ ys) (mapped_twice f g xs)

-- the images of a list are mapped
pub each_mapped : {A B C : Type 0} (f : B → C) (xs ys : List A) (g : A → B) {zs : List B} → xs ≡ ys → map g ys ≡ zs → map (λ x. f (g x)) xs ≡ map f zs
each_mapped f xs ys g same images = ap (map (λ x. f (g x))) same ∙ mapped_twice f g ys ∙ ap (map f) images

-- what holds of the images of a list holds of each
pub images_pass : {A B : Type 0} (P : B → Bool) (xs ys : List A) (g : A → B) {zs : List B} → xs ≡ ys → map g ys ≡ zs → list_all P zs ≡ true → list_all (λ x. P (g x)) xs ≡ true
images_pass P xs ys g same images all = ap (list_all (λ x. P (g x))) same ∙ sym (list_all-map P g ys) ∙ ap (list_all P) images ∙ all

-- four texts, one added after the other
pub four_added : (t₀ a b c d : List ℕ) {t₁ t₂ t₃ t₄ : List ℕ} → t₁ ≡ t₀ ++ a → t₂ ≡ t₁ ++ b → t₃ ≡ t₂ ++ c → t₄ ≡ t₃ ++ d → t₄ ≡ t₀ ++ (a ++ (b ++ (c ++ (d ++ []))))
four_added t₀ a b c d one two three four =
    four ∙ ap (λ t. t ++ d) (three ∙ ap (λ t. t ++ c) (two ∙ ap (λ t. t ++ b) one)) ∙ append_assoc ((t₀ ++ a) ++ b) c d ∙ append_assoc (t₀ ++ a) b (c ++ d)
    ∙ append_assoc t₀ a (b ++ (c ++ d)) ∙ ap (λ e. t₀ ++ (a ++ (b ++ (c ++ e)))) (sym (append-nil d))

-- the images of those whose images pass
pub filter_images : {A B : Type 0} (P : B → Bool) (g : A → B) (xs : List A) → map g (filter (λ x. P (g x)) xs) ≡ filter P (map g xs)
filter_images P g [] = refl
filter_images P g (x ∷ xs) =
    elim (P (g x)) as (λ b. map g (if b then x ∷ filter (λ x. P (g x)) xs else filter (λ x. P (g x)) xs) ≡ (if b then g x ∷ filter P (map g xs) else filter P (map g xs))) [
      | true ↦ ap (λ ys. g x ∷ ys) (filter_images P g xs)
      | false ↦ filter_images P g xs
    ]
