-- What holds of every proper datum and the object that it stands for, shown kind by kind.
use Rattle.std.proofs.Common.{◌≡◌, ℕ, ℤ, List, length, map, None, Some, true, false, not, ◌&&◌, nat_lt, sym, ◌∙◌, subst}
use Rattle.std.specs.List.{list_all}
use Rattle.std.proofs.lemmas.Bool.{and_parts, both_ways, not-true}
use Rattle.lisp_object.specs.declared.datum.Datum
use Rattle.lisp_object.specs.declared.datum.Datum.{Datum, roll-Datum, map-Datum, ind-Datum}
use Rattle.lisp_object.specs.declared.datum.Datum.TheOpen.{Datum-F}
use Rattle.lisp_object.specs.declared.datum.Datum.TheVariants.{rolls-Integer, rolls-Rational, rolls-Char, rolls-Text, rolls-Symbol, rolls-Uninterned, rolls-List, rolls-Vector}
use Rattle.lisp_object.specs.Object.{Object, integer, rational, character, text, symbol, uninterned, vector, nil, is_nil, pairs, list_of}
use Rattle.lisp_object.specs.Datum.{object_of, is_proper, is_list}
use Rattle.lisp_object.proofs.Objects.{object_of-Integer, object_of-Rational, object_of-Char, object_of-Text, object_of-Symbol, object_of-Uninterned, object_of-List, object_of-dotted, object_of-Vector}
use Rattle.lisp_object.proofs.Properness.{is_proper-List, is_proper-dotted, is_proper-Vector, is_list-Symbol, is_list-List, is_list-dotted}

-- `Whole` is to hold of a proper datum and its object, and `End` too where the datum can end a dotted list
module _ (Whole End : Datum → Object → Type 0) where
  abbrev pub Related : Datum → Type 0
  Related x = is_proper x ≡ true → Whole x (object_of x) × (is_list x ≡ false → End x (object_of x))

  abbrev pub Known : Type 0
  Known = (x : Datum) × Related x

  abbrev pub data_of : List Known → List Datum
  data_of es = map (λ e. e.0) es

  both : (x : Datum) (o : Object) → object_of x ≡ o → Whole x o × End x o → Related x
  both x o is holds _ = (subst (Whole x) (sym is) holds.0, λ _. subst (End x) (sym is) holds.1)

  symbol_arm : (home name : List ℕ) → Whole (Datum.Symbol home name) (symbol home name)
      → (is_nil home name ≡ false → End (Datum.Symbol home name) (symbol home name)) → Related (Datum.Symbol home name)
  symbol_arm home name whole end _ = (
    subst (Whole (Datum.Symbol home name)) (sym (object_of-Symbol home name)) whole,
    λ other. subst (End (Datum.Symbol home name)) (sym (object_of-Symbol home name)) (end (sym (is_list-Symbol home name) ∙ other)),
  )

  list_arm : (es : List Known)
      → (nat_lt 0 (length (data_of es)) ≡ true → list_all is_proper (data_of es) ≡ true
      → Whole (Datum.List (data_of es) None) (pairs (map object_of (data_of es)) nil)) → Related (Datum.List (data_of es) None)
  list_arm es holds proper =
      let parts : (nat_lt 0 (length (data_of es)) ≡ true) × (list_all is_proper (data_of es) ≡ true) =
      and_parts (nat_lt 0 (length (data_of es))) (list_all is_proper (data_of es)) (sym (is_proper-List (data_of es)) ∙ proper) in (
        subst (Whole (Datum.List (data_of es) None)) (sym (object_of-List (data_of es))) (holds parts.0 parts.1),
        λ other. absurd (both_ways (is_list (Datum.List (data_of es) None)) other (is_list-List (data_of es))),
      )

  dotted_arm : (es : List Known) (t : Known)
      → (nat_lt 0 (length (data_of es)) ≡ true → list_all is_proper (data_of es) ≡ true → End t.0 (object_of t.0)
      → Whole (Datum.List (data_of es) (Some t.0)) (pairs (map object_of (data_of es)) (object_of t.0)))
      → Related (Datum.List (data_of es) (Some t.0))
  dotted_arm es t holds proper =
      let whole : ((nat_lt 0 (length (data_of es)) && list_all is_proper (data_of es)) ≡ true) × ((is_proper t.0 && not (is_list t.0)) ≡ true) =
      and_parts (nat_lt 0 (length (data_of es)) && list_all is_proper (data_of es)) (is_proper t.0 && not (is_list t.0))
      (sym (is_proper-dotted (data_of es) t.0) ∙ proper) in
      let parts : (nat_lt 0 (length (data_of es)) ≡ true) × (list_all is_proper (data_of es) ≡ true) =
      and_parts (nat_lt 0 (length (data_of es))) (list_all is_proper (data_of es)) whole.0 in
      let ends : (is_proper t.0 ≡ true) × (not (is_list t.0) ≡ true) = and_parts (is_proper t.0) (not (is_list t.0)) whole.1 in (
        subst (Whole (Datum.List (data_of es) (Some t.0))) (sym (object_of-dotted (data_of es) t.0))
            (holds parts.0 parts.1 ((t.1 ends.0).1 (not-true (is_list t.0) ends.1))),
        λ other. absurd (both_ways (is_list (Datum.List (data_of es) (Some t.0))) other (is_list-dotted (data_of es) t.0)),
      )

-- where it holds of each kind, and of what has parts once it holds of the parts, it holds of all
module _ (Whole End : Datum → Object → Type 0)
    (numbers : (n : ℤ) → Whole (Datum.Integer n) (integer n) × End (Datum.Integer n) (integer n))
    (ratios : (r : ℤ × ℕ) → Whole (Datum.Rational r) (rational r.0 r.1) × End (Datum.Rational r) (rational r.0 r.1))
    (characters : (c : ℕ) → Whole (Datum.Char c) (character c) × End (Datum.Char c) (character c))
    (texts : (b : List ℕ) → Whole (Datum.Text b) (text b) × End (Datum.Text b) (text b))
    (symbols : (home name : List ℕ) → Whole (Datum.Symbol home name) (symbol home name)
    × (is_nil home name ≡ false → End (Datum.Symbol home name) (symbol home name)))
    (unnamed : (name : List ℕ) → Whole (Datum.Uninterned name) (uninterned name) × End (Datum.Uninterned name) (uninterned name))
    (lists : (es : List (Known Whole End)) → nat_lt 0 (length (data_of Whole End es)) ≡ true
    → list_all is_proper (data_of Whole End es) ≡ true
    → Whole (Datum.List (data_of Whole End es) None) (pairs (map object_of (data_of Whole End es)) nil))
    (dotted : (es : List (Known Whole End)) (t : Known Whole End) → nat_lt 0 (length (data_of Whole End es)) ≡ true
    → list_all is_proper (data_of Whole End es) ≡ true → End t.0 (object_of t.0)
    → Whole (Datum.List (data_of Whole End es) (Some t.0)) (pairs (map object_of (data_of Whole End es)) (object_of t.0)))
    (vectors : (es : List (Known Whole End)) → list_all is_proper (data_of Whole End es) ≡ true
    → Whole (Datum.Vector (data_of Whole End es)) (vector (list_of (map object_of (data_of Whole End es))))
    × End (Datum.Vector (data_of Whole End es)) (vector (list_of (map object_of (data_of Whole End es))))) where
  at : (y : Datum-F (Known Whole End)) → Related Whole End (roll-Datum (map-Datum (Known Whole End) Datum (λ e. e.0) y))
  at (Datum-F.Integer n) = subst (Related Whole End) (sym (rolls-Integer n))
      (both Whole End (Datum.Integer n) (integer n) (object_of-Integer n) (numbers n))
  at (Datum-F.Rational r) = subst (Related Whole End) (sym (rolls-Rational r))
      (both Whole End (Datum.Rational r) (rational r.0 r.1) (object_of-Rational r) (ratios r))
  at (Datum-F.Char c) = subst (Related Whole End) (sym (rolls-Char c))
      (both Whole End (Datum.Char c) (character c) (object_of-Char c) (characters c))
  at (Datum-F.Text b) = subst (Related Whole End) (sym (rolls-Text b))
      (both Whole End (Datum.Text b) (text b) (object_of-Text b) (texts b))
  at (Datum-F.Symbol h n) = subst (Related Whole End) (sym (rolls-Symbol h n))
      (symbol_arm Whole End h n (symbols h n).0 (symbols h n).1)
  at (Datum-F.Uninterned n) = subst (Related Whole End) (sym (rolls-Uninterned n))
      (both Whole End (Datum.Uninterned n) (uninterned n) (object_of-Uninterned n) (unnamed n))
  at (Datum-F.List es None) = subst (Related Whole End) (sym (rolls-List (data_of Whole End es) None))
      (list_arm Whole End es (lists es))
  at (Datum-F.List es (Some t)) = subst (Related Whole End) (sym (rolls-List (data_of Whole End es) (Some t.0)))
      (dotted_arm Whole End es t (dotted es t))
  at (Datum-F.Vector es) = subst (Related Whole End) (sym (rolls-Vector (data_of Whole End es)))
      (λ proper.
      both Whole End (Datum.Vector (data_of Whole End es)) (vector (list_of (map object_of (data_of Whole End es))))
      (object_of-Vector (data_of Whole End es)) (vectors es (sym (is_proper-Vector (data_of Whole End es)) ∙ proper)) proper)

  pub by_kind : (x : Datum) → Related Whole End x
  by_kind = ind-Datum (Related Whole End) (λ x y is. subst (λ z. Related Whole End (roll-Datum z)) is (at y))
