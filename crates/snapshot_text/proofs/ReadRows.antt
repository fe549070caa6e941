-- Lists, item by item.
use Rattle.std.proofs.Common.{◌≡◌, ℕ, ◌+◌, ◌<◌, Bool, true, false, List, [], ◌∷◌, ◌++◌, map, length, get_or, refl, sym, ap, subst, ◌∙◌, inl, inr, length-append, arith}
use Rattle.std.specs.Prelude.{All}
use Rattle.std.specs.List.{list_all}
use Rattle.std.proofs.lemmas.Bool.{false≢true}
use Rattle.std.proofs.Math.Nat.{eq-or-lt_of_le}
use Rattle.std.proofs.Math.Seq.{get_or-append_seam}
use Rattle.std.proofs.lemmas.List.{length-map, get_or-map, get_or_append_left}
use Rattle.std.proofs.lemmas.List.Folds.{list_all_at}
use Rattle.package_table.specs.Table.{Table}
use Rattle.snapshot_text.specs.declared.package_parts.PackageParts.{PackageParts}
use Rattle.snapshot_text.specs.Phases.{IsRowOf, AreFirstRows, other_packages}

pub mapped_length : {A B : Type 0} (f : A → B) (xs : List A) (ys : List B) → map f xs ≡ ys → length xs ≡ length ys
mapped_length f xs ys e = sym (length-map xs f) ∙ ap length e

-- two lists that are mapped to one
pub same_length : {A B C : Type 0} (f : A → C) (g : B → C) (xs : List A) (ys : List B) → map f xs ≡ map g ys → length xs ≡ length ys
same_length f g xs ys e = mapped_length f xs (map g ys) e ∙ length-map ys g

pub same_item : {A B C : Type 0} (f : A → C) (g : B → C) (xs : List A) (ys : List B) → map f xs ≡ map g ys
    → (i : ℕ) (d : A) (e : B) → i < length xs → f (get_or xs i d) ≡ g (get_or ys i e)
same_item f g xs ys is i d e lt =
    let long = same_length f g xs ys is in
    let within : i < length ys = omega arith in
    sym (get_or-map f xs i d (f d) lt) ∙ ap (λ zs. get_or zs i (f d)) is ∙ get_or-map g ys i e (f d) within

pub passing_item : {A : Type 0} (test : A → Bool) (xs : List A) → list_all test xs ≡ true → (i : ℕ) (d : A) → i < length xs → test (get_or xs i d) ≡ true
passing_item test xs all i d lt =
    elim (test (get_or xs i d)) as (λ b. test (get_or xs i d) ≡ b → b ≡ true) [
      | true ↦ λ _. refl
      | false ↦ λ no. absurd (false≢true (sym (list_all_at test xs i d lt no) ∙ all))
    ] refl

-- what holds of the items of a mapped list
pub of_mapped : {A B : Type 0} (P : B → Type 0) (f : A → B) (xs : List A) → All P (map f xs) → All (λ x. P (f x)) xs
of_mapped P f xs all = λ k d lt.
    let long = length-map xs f in
    subst P (get_or-map f xs k d (f d) lt) (all k (f d) (omega arith))

-- ---- rows

pub no_rows : (s : Table) → AreFirstRows s 0 []
no_rows s = record { long = refl; each = λ i row lt. absurd (omega arith) }

-- one more row
pub more_rows : (s : Table) (rows : List PackageParts) (row : PackageParts) (i : ℕ) → AreFirstRows s i rows
    → IsRowOf s (get_or (other_packages s) i []) row → AreFirstRows s (i + 1) (rows ++ row ∷ [])
more_rows s rows row i before here =
    let long = before.long in
    let more : length (rows ++ row ∷ []) ≡ length rows + 1 = length-append rows (row ∷ []) in
    record {
      long = omega arith;
      each = λ k d within.
          elim (eq-or-lt_of_le {n = k} {m = i} (omega arith)) [
            | inl same ↦
                let at : get_or (rows ++ row ∷ []) k d ≡ row = ap (λ j. get_or (rows ++ row ∷ []) j d) (same ∙ sym long) ∙ get_or-append_seam rows row [] d in
                subst (λ (x : PackageParts). IsRowOf s (get_or (other_packages s) k []) x) (sym at) (subst (λ (j : ℕ). IsRowOf s (get_or (other_packages s) j []) row) (sym same) here)
            | inr below ↦
                let lt : k < length rows = omega arith in
                subst (λ (x : PackageParts). IsRowOf s (get_or (other_packages s) k []) x) (sym (get_or_append_left rows (row ∷ []) d k lt)) (before.each k d lt)
          ];
    }
