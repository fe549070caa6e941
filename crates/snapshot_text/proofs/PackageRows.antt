-- The line of packages, part by part: how lists stand in it, and each row.
use Rattle.std.proofs.Common.{◌≡◌, ℕ, ◌+◌, ◌≤◌, ◌<◌, List, [], ◌∷◌, ◌++◌, map, length, drop, get_or, append_assoc, length-drop, refl, sym, ap, ◌∙◌, arith}
use Rattle.std.specs.Prelude.{codes}
use Rattle.std.proofs.lemmas.List.{drop_more}
use Rattle.lisp_object.specs.Object.{Object, text, list_of}
use Rattle.package_table.specs.Table.{Name, Table, AreSoundPackages, common_lisp_user}
use Rattle.package_table.specs.Readers.{used_names, imports}
use Rattle.canon_printer.specs.Written.{written_rest, printed_text}
use Rattle.canon_printer.specs.Printed.{printed_prefix}
use Rattle.world_text.specs.Snapshot.{made_names, shown_names, imported_name, package_object}
use Rattle.world_text.specs.ObjectTexts.{object_text}
use Rattle.world_text.proofs.PlainObjects.{no_prefix}
use Rattle.snapshot_lines.specs.QuotedTexts.{text_of_items, items_rest, quoted_texts, pairs_text}

-- ---- lists

module _ (s : Table) where
  rest_is : {A : Type 0} (f : A → Object) (xs : List A) → written_rest (printed_prefix s common_lisp_user) (list_of (map f xs)) ≡ items_rest (map (λ x. object_text s (f x)) xs)
  rest_is f [] = refl
  rest_is f (x ∷ xs) = ap (λ r. 32 ∷ (object_text s (f x) ++ r)) (rest_is f xs)

  -- objects in a list
  pub listed_are : AreSoundPackages s → {A : Type 0} (f : A → Object) (xs : List A) → object_text s (list_of (map f xs)) ≡ text_of_items (map (λ x. object_text s (f x)) xs)
  listed_are sound f [] = ap (λ prefix. prefix ++ codes "NIL") (no_prefix s sound)
  listed_are sound f (x ∷ xs) = ap (λ r. 40 ∷ (object_text s (f x) ++ r)) (rest_is f xs)

-- ---- a row

module _ (s : Table) (p : Name) (after : List ℕ) where
  -- what stands after the name, and after each list
  abbrev pub after_shown : List ℕ
  after_shown = 32 ∷ (pairs_text (imports s p) ++ 41 ∷ after)

  abbrev pub after_own : List ℕ
  after_own = 32 ∷ (quoted_texts (shown_names s p) ++ after_shown)

  abbrev pub after_used : List ℕ
  after_used = 32 ∷ (quoted_texts (made_names s p) ++ after_own)

  abbrev pub after_name : List ℕ
  after_name = 32 ∷ (quoted_texts (used_names s p) ++ after_used)

five_apart : (a b c d e after : List ℕ) → (40 ∷ (a ++ (32 ∷ (b ++ (32 ∷ (c ++ (32 ∷ (d ++ (32 ∷ (e ++ 41 ∷ [])))))))))) ++ after ≡ 40 ∷ (a ++ (32 ∷ (b ++ (32 ∷ (c ++ (32 ∷ (d ++ (32 ∷ (e ++ 41 ∷ after)))))))))
five_apart a b c d e after =
    let five = append_assoc e (41 ∷ []) after in
    let four = append_assoc d (32 ∷ (e ++ 41 ∷ [])) after ∙ ap (λ x. d ++ 32 ∷ x) five in
    let three = append_assoc c (32 ∷ (d ++ (32 ∷ (e ++ 41 ∷ [])))) after ∙ ap (λ x. c ++ 32 ∷ x) four in
    let two = append_assoc b (32 ∷ (c ++ (32 ∷ (d ++ (32 ∷ (e ++ 41 ∷ [])))))) after ∙ ap (λ x. b ++ 32 ∷ x) three in
    ap (λ x. 40 ∷ x) (append_assoc a (32 ∷ (b ++ (32 ∷ (c ++ (32 ∷ (d ++ (32 ∷ (e ++ 41 ∷ [])))))))) after ∙ ap (λ x. a ++ 32 ∷ x) two)

pub row_apart : (s : Table) → AreSoundPackages s → (p : Name) (after : List ℕ) → object_text s (package_object s p) ++ after ≡ 40 ∷ (printed_text p ++ after_name s p after)
row_apart s sound p after =
    (λ i. (40 ∷ (printed_text p ++ (32 ∷ (listed_are s sound (λ n. text n) (used_names s p) i ++ (32 ∷ (listed_are s sound (λ n. text n) (made_names s p) i
    ++ (32 ∷ (listed_are s sound (λ n. text n) (shown_names s p) i ++ (32 ∷ (listed_are s sound imported_name (imports s p) i ++ 41 ∷ [])))))))))) ++ after)
    ∙ five_apart (printed_text p) (quoted_texts (used_names s p)) (quoted_texts (made_names s p)) (quoted_texts (shown_names s p)) (pairs_text (imports s p)) after

-- ---- rows, one after the other

-- where some are left, the first of them
pub first_left : {A : Type 0} (xs : List A) (n : ℕ) (x d : A) (ys : List A) → drop n xs ≡ x ∷ ys → (n < length xs) × (x ≡ get_or xs n d) × (ys ≡ drop (n + 1) xs)
first_left xs n x d ys e =
    let long = length-drop n xs in
    let some : length (drop n xs) ≡ length (x ∷ ys) = ap length e in
    let within : n < length xs = omega arith in
    let more = sym e ∙ drop_more xs n d within in
    (within, let h : x ≡ get_or xs n d = cc in h, let t : ys ≡ drop (n + 1) xs = cc in t)

pub none_left : {A : Type 0} (xs : List A) (n : ℕ) → n ≤ length xs → drop n xs ≡ [] → n ≡ length xs
none_left xs n within e =
    let long = length-drop n xs in
    let none : length (drop n xs) ≡ 0 = ap length e in
    omega arith
