-- What is written after a list's last item, and the items of lists.
use Rattle.std.proofs.Common.{◌≡◌, ◌<◌, ◌++◌, List, [], ◌∷◌, Option, Some, None, true, false, not, ◌&&◌, ℕ, ◌+◌, ◌≤◌, get_or, take, length, map, codes, refl, sym, ap, ◌∙◌, subst, append_assoc, arith, append-nil}
use Rattle.std.specs.Prelude.{◌==◌, if◌then◌else◌}
use Rattle.std.proofs.lemmas.Grind.{flat_map-append}
use Rattle.std.proofs.lemmas.Bool.Decides.{nat_tests}
use Rattle.std.specs.Option.{option_map_or}
use Rattle.std.proofs.lemmas.Bool.{and_parts, not-true}
use Rattle.std.proofs.lemmas.List.{length-map, length-take-le, take_more, map-append}
use Rattle.lisp_object.specs.declared.datum.Datum
use Rattle.lisp_object.specs.declared.datum.Datum.{Datum}
use Rattle.lisp_object.specs.Object as o
use Rattle.lisp_object.specs.Object.{Object, vector, nil, pairs, object_is_list}
use Rattle.lisp_object.specs.Datum.{object_of, is_proper, is_list}
use Rattle.lisp_object.proofs.Objects.{object_of-List, object_of-dotted, object_of-Vector}
use Rattle.lisp_object.proofs.ProperLists.{items_of_proper, no_list_object}
use Rattle.canon_printer.specs.Written.{written, written_rest, written_others, written_items}

module _ (prefix : List ℕ → List ℕ → List ℕ) where
  -- what ends a list after a dot
  pub written_rest_dotted : (x : Object) → object_is_list x ≡ false → written_rest prefix x ≡ codes " . " ++ written prefix x ++ codes ")"
  written_rest_dotted (o.symbol home name) other = rw other refl
  written_rest_dotted (o.pair a b) other = absurd (cc)
  written_rest_dotted (o.vector xs) other = refl
  written_rest_dotted (o.integer n) other = refl
  written_rest_dotted (o.rational n d) other = refl
  written_rest_dotted (o.character c) other = refl
  written_rest_dotted (o.text bytes) other = refl
  written_rest_dotted (o.uninterned name) other = refl

  -- the same of a datum that may be a list's tail, after any text
  pub written_tail : (s : List ℕ) (d : Datum) → (is_proper d && not (is_list d)) ≡ true
      → ((s ++ codes " . ") ++ written prefix (object_of d)) ++ codes ")" ≡ s ++ written_rest prefix (object_of d)
  written_tail s d e =
      let parts : (is_proper d ≡ true) × (not (is_list d) ≡ true) = and_parts (is_proper d) (not (is_list d)) e in
      let other : object_is_list (object_of d) ≡ false = no_list_object d parts.0 (not-true (is_list d) parts.1) in
      rw (written_rest_dotted (object_of d) other) (simp append_assoc)

  -- one item more
  pub written_items_more : (s : List ℕ) (xs : List Object) (x : Object)
      → ((s ++ written_items prefix xs) ++ (if length xs == 0 then [] else codes " ")) ++ written prefix x ≡ s ++ written_items prefix (xs ++ x ∷ [])
  written_items_more s [] x = simp append-nil
  written_items_more s (y ∷ ys) x =
      let some : (length (y ∷ ys) == 0) ≡ false = grind (arith, nat_tests) in
      rw (some, flat_map-append (λ x. codes " " ++ written prefix x) ys (x ∷ [])) (simp (append_assoc, append-nil))

  written_items_at : (s : List ℕ) (xs : List Object) (x : Object) (k : ℕ) → length xs ≡ k
      → ((s ++ written_items prefix xs) ++ (if k == 0 then [] else codes " ")) ++ written prefix x ≡ s ++ written_items prefix (xs ++ x ∷ [])
  written_items_at s xs x k e =
      subst (λ n. ((s ++ written_items prefix xs) ++ (if n == 0 then [] else codes " ")) ++ written prefix x ≡ s ++ written_items prefix (xs ++ x ∷ [])) e
      (written_items_more s xs x)

  -- a list is written by its items
  pub written_rest_pairs : (xs : List Object) (end : Object) → written_rest prefix (pairs xs end) ≡ written_others prefix xs ++ written_rest prefix end
  written_rest_pairs [] end = refl
  written_rest_pairs (x ∷ xs) end =
      ap (λ s. (codes " " ++ written prefix x) ++ s) (written_rest_pairs xs end) ∙ sym (append_assoc (codes " " ++ written prefix x) (written_others prefix xs) (written_rest prefix end))

  pub written_list : (s : List ℕ) (xs : List Object) (end : Object) → 0 < length xs
      → ((s ++ codes "(") ++ written_items prefix xs) ++ written_rest prefix end ≡ s ++ written prefix (pairs xs end)
  written_list s [] end h = absurd (omega arith)
  written_list s (x ∷ xs) end h = rw (written_rest_pairs xs end) (simp append_assoc)

  pub written_vector : (s : List ℕ) (xs : List Object) → ((s ++ codes "#(") ++ written_items prefix xs) ++ codes ")" ≡ s ++ written prefix (vector (pairs xs nil))
  written_vector s [] = simp append_assoc
  written_vector s (x ∷ xs) = rw (written_rest_pairs xs nil) (simp append_assoc)

  pub written_list_datum : (s : List ℕ) (items : List Datum) (tail : Option Datum) → is_proper (Datum.List items tail) ≡ true
      → ((s ++ codes "(") ++ written_items prefix (map object_of items)) ++ written_rest prefix (option_map_or object_of tail nil)
      ≡ s ++ written prefix (object_of (Datum.List items tail))
  written_list_datum s items None e =
      let some : 0 < length (map object_of items) = rw (length-map items object_of) ((items_of_proper items None e).0) in
      written_list s (map object_of items) nil some ∙ ap (λ x. s ++ written prefix x) (sym (object_of-List items))
  written_list_datum s items (Some d) e =
      let some : 0 < length (map object_of items) = rw (length-map items object_of) ((items_of_proper items (Some d) e).0) in
      written_list s (map object_of items) (object_of d) some ∙ ap (λ x. s ++ written prefix x) (sym (object_of-dotted items d))

  pub written_vector_datum : (s : List ℕ) (items : List Datum)
      → ((s ++ codes "#(") ++ written_items prefix (map object_of items)) ++ codes ")" ≡ s ++ written prefix (object_of (Datum.Vector items))
  written_vector_datum s items = written_vector s (map object_of items) ∙ ap (λ x. s ++ written prefix x) (sym (object_of-Vector items))

  -- one item more of a list
  pub written_items_one_more : (s : List ℕ) (xs : List Datum) (i : ℕ) (d : Datum) → i < length xs → d ≡ get_or xs i d
      → ((s ++ written_items prefix (map object_of (take i xs))) ++ (if i == 0 then [] else codes " ")) ++ written prefix (object_of d)
      ≡ s ++ written_items prefix (map object_of (take (i + 1) xs))
  written_items_one_more s xs i d lt is =
      let le : i ≤ length xs = omega arith in
      let n : length (map object_of (take i xs)) ≡ i = length-map (take i xs) object_of ∙ length-take-le i xs le in
      let more : take (i + 1) xs ≡ take i xs ++ d ∷ [] = take_more xs i d lt ∙ ap (λ x. take i xs ++ x ∷ []) (sym is) in
      rw (more, map-append object_of (take i xs) (d ∷ [])) (written_items_at s (map object_of (take i xs)) (object_of d) i n)
