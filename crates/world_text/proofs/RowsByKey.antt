-- Rows that are found again by their keys: two lists of rows that are equal have equal rows at each key.
use Rattle.std.proofs.Common.{◌≡◌, Bool, true, false, List, [], ◌∷◌, map, filter, Some, None, refl, sym, ap, ◌∙◌, unwrap_or}
use Rattle.std.specs.Prelude.{Option, cond, is_some, ◌||◌, if◌then◌else◌}
use Rattle.std.specs.List.{list_any}
use Rattle.std.specs.Option.{option_map_or}
use Rattle.lisp_object.specs.Object.{Object, list_of, nil, pairs}

-- the rows that a function gives of keys, each none or one
abbrev pub rows : {A B : Type 0} → (A → Option B) → List A → List B
rows f [] = []
rows f (x ∷ xs) = option_map_or (λ b. b ∷ rows f xs) (f x) (rows f xs)

-- the first row that passes a test
abbrev pub first_row : {B : Type 0} → (B → Bool) → List B → Option B
first_row test [] = None
first_row test (b ∷ bs) = cond (test b) (Some b) (first_row test bs)

same_some : {A : Type 0} (x y : A) → ◌≡◌ {A = Option A} (Some x) (Some y) → x ≡ y
same_some x y e = ap (λ o. unwrap_or o x) e

-- a key without a row may stand among the others or not
none_either : {B : Type 0} (a e : Bool) (o : Option B) → (e ≡ true → o ≡ None) → cond a o None ≡ cond (e || a) o None
none_either a false o h = refl
none_either true true o h = refl
none_either false true o h = sym (h refl)

pub found_row : {A B : Type 0} (eq : A → A → Bool) (of : A → B → Bool) (f : A → Option B)
    → ((q x : A) → eq q x ≡ true → q ≡ x) → ((q x : A) (b : B) → f x ≡ Some b → of q b ≡ eq q x)
    → (q : A) (xs : List A) → first_row (of q) (rows f xs) ≡ cond (list_any (eq q) xs) (f q) None
found_row eq of f one is q [] = refl
found_row eq of f one is q (x ∷ xs) =
    let later = found_row eq of f one is q xs in
    elim (f x) as (λ o. f x ≡ o → first_row (of q) (option_map_or (λ b. b ∷ rows f xs) o (rows f xs)) ≡ cond (eq q x || list_any (eq q) xs) (f q) None) [
      | None ↦ λ none. later ∙ none_either (list_any (eq q) xs) (eq q x) (f q) (λ e. ap f (one q x e) ∙ none)
      | Some b ↦ λ some. ap (λ t. cond t (Some b) (first_row (of q) (rows f xs))) (is q x b some)
          ∙ elim (eq q x) as (λ e. eq q x ≡ e → cond e (Some b) (first_row (of q) (rows f xs)) ≡ cond (e || list_any (eq q) xs) (f q) None) [
            | true ↦ λ e. sym (ap f (one q x e) ∙ some)
            | false ↦ λ e. later
          ] refl
    ] refl

pub same_rows : {A B : Type 0} (eq : A → A → Bool) (of : A → B → Bool) (f g : A → Option B)
    → ((q x : A) → eq q x ≡ true → q ≡ x) → ((q x : A) (b : B) → f x ≡ Some b → of q b ≡ eq q x) → ((q x : A) (b : B) → g x ≡ Some b → of q b ≡ eq q x)
    → (xs ys : List A) → rows f xs ≡ rows g ys → (q : A) → cond (list_any (eq q) xs) (f q) None ≡ cond (list_any (eq q) ys) (g q) None
same_rows eq of f g one isf isg xs ys e q =
    sym (found_row eq of f one isf q xs) ∙ ap (first_row (of q)) e ∙ found_row eq of g one isg q ys

pub mapped_rows : {A B : Type 0} (f : A → B) (xs : List A) → map f xs ≡ rows (λ x. Some (f x)) xs
mapped_rows f [] = refl
mapped_rows f (x ∷ xs) = ap (λ ys. f x ∷ ys) (mapped_rows f xs)

pub filtered_rows : {A B : Type 0} (f : A → B) (p : A → Bool) (xs : List A) → map f (filter p xs) ≡ rows (λ x. cond (p x) (Some (f x)) None) xs
filtered_rows f p [] = refl
filtered_rows f p (x ∷ xs) =
    let later = filtered_rows f p xs in
    elim (p x) as (λ b. map f (if b then x ∷ filter p xs else filter p xs) ≡ option_map_or (λ b₁. b₁ ∷ rows (λ x₁. cond (p x₁) (Some (f x₁)) None) xs) (cond b (Some (f x)) None) (rows (λ x₁. cond (p x₁) (Some (f x₁)) None) xs)) [
      | true ↦ ap (λ ys. f x ∷ ys) later
      | false ↦ later
    ]

-- ---- lists of objects

pub same_list : (xs ys : List Object) → list_of xs ≡ list_of ys → xs ≡ ys
same_list [] [] e = refl
same_list [] (y ∷ ys) e = absurd cc
same_list (x ∷ xs) [] e = absurd cc
same_list (x ∷ xs) (y ∷ ys) e =
    let h : x ≡ y = cc in
    let later : pairs xs nil ≡ pairs ys nil = cc in
    λ i. h i ∷ same_list xs ys later i

-- an absent one and one that is there
pub same_options : {A : Type 0} (d : A) (a b : Option A) → is_some a ≡ is_some b → unwrap_or a d ≡ unwrap_or b d → a ≡ b
same_options d None None h e = refl
same_options d None (Some b) h e = absurd cc
same_options d (Some a) None h e = absurd cc
same_options d (Some a) (Some b) h e = ap (λ x. Some x) e
