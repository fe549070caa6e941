-- Which data fit: each kind of them by its parts.
use Rattle.std.proofs.Common.{◌≡◌, ℕ, zero, suc, ◌+◌, ◌-◌, ◌<◌, ◌≤◌, max, List, [], ◌∷◌, length, map, Option, None, Some, Bool, true, false, not, nat_lt, nat_le, refl, sym, ap, ◌∙◌, All, IsTrue, arith}
use Rattle.std.specs.Prelude.{◌&&◌, fold, sum, sum_by, if◌then◌else◌}
use Rattle.std.specs.List.{list_all}
use Rattle.std.proofs.lemmas.Bool.{and_parts, and_from, not-true, false≢true, leb-true, le-leb, ltb-true, lt-ltb}
use Rattle.std.proofs.lemmas.List.Elements.{All-nil, All-cons, All-head, All-tail}
use Rattle.std.proofs.lemmas.List.Sums.{sum-map}
use Rattle.lisp_object.specs.declared.datum.Datum
use Rattle.lisp_object.specs.declared.datum.Datum.{Datum}
use Rattle.lisp_object.specs.Object.{nil, object_depth, object_size}
use Rattle.lisp_object.specs.Datum.{object_of, is_proper, is_list, depth, size, greatest}
use Rattle.lisp_object.proofs.Objects.{object_of-List, object_of-dotted, object_of-Vector, depth-List, depth-dotted, depth-Vector, size-List, size-dotted, size-Vector}
use Rattle.lisp_object.proofs.Properness.{is_proper-List, is_proper-dotted, is_proper-Vector}
use Rattle.lisp_object.proofs.Sizes.{size_object}
use Rattle.lisp_object.proofs.Depths.{depth_object}
use Rattle.package_table.specs.Table.{Table as Packages}
use Rattle.lisp_object.specs.declared.refusal.TheConstants.{MACRO_ANSWER}
use Rattle.user_macros.specs.declared.call.Answer.TheVariants.{One}
use Rattle.user_macros.specs.Calls.{value, improper, answer_of}
use Rattle.lisp_reading.specs.declared.attempt.Found.{Found}
use Rattle.lisp_reading.specs.declared.attempt.Found.TheVariants.{One as one}
use Rattle.lisp_reading.specs.Plans.{Plan, gives, refuses}
use Rattle.lisp_reading.specs.Answering.{are_known, may_be_answered}
use Rattle.lisp_reading.specs.Reading.{plan_after_answer}
use Rattle.form_reader.specs.Fits.{Fits, FitsEnd, end_size}
use Rattle.form_reader.proofs.Calls.{known_pairs}

greatest_from : (a : ℕ) (ns : List ℕ) → fold max a ns ≡ max a (greatest ns)
greatest_from a [] = omega arith
greatest_from a (n ∷ ns) = omega (arith, greatest_from (max a n) ns, greatest_from (max 0 n) ns)

greatest_cons : (n : ℕ) (ns : List ℕ) → greatest (n ∷ ns) ≡ max n (greatest ns)
greatest_cons n ns = omega (arith, greatest_from (max 0 n) ns)

agree : (x y : Bool) → (x ≡ true → y ≡ true) → (y ≡ true → x ≡ true) → x ≡ y
agree true y to from = sym (to refl)
agree false true to from = from refl
agree false false to from = refl

same_order : (a b m n : ℕ) → (a ≤ b → m ≤ n) → (m ≤ n → a ≤ b) → nat_le a b ≡ nat_le m n
same_order a b m n to from = agree (nat_le a b) (nat_le m n) (λ e. le-leb m n (to (leb-true a b e))) (λ e. le-leb a b (from (leb-true m n e)))

pub some_items : (empty : Bool) (n : ℕ) → (n ≡ 0 → empty ≡ true) → empty ≡ false → 0 < n
some_items empty zero is other = absurd (false≢true (sym other ∙ is refl))
some_items empty (suc n) is other = omega arith

none_so : (b : Bool) → (b ≡ true → ⊥) → false ≡ b
none_so true never = absurd (never refl)
none_so false never = refl

sizes : (ds : List Datum) → sum (map size ds) ≡ sum_by size ds
sizes ds = sum-map size ds

-- the size of what has parts
pub list_size : (items : List Datum) (tail : Option Datum) → size (Datum.List items tail) ≡ sum_by size items + end_size tail + 1
list_size items None = size-List items ∙ ap (λ n. n + 0 + 1) (sizes items)
list_size items (Some t) = size-dotted items t ∙ ap (λ n. n + size t + 1) (sizes items)

pub vector_size : (items : List Datum) → size (Datum.Vector items) ≡ sum_by size items + 1
vector_size items = size-Vector items ∙ ap (λ n. n + 1) (sizes items)

module _ (packages : Packages) (room : ℕ) where
  -- ---- items

  items_proper : (ds : List Datum) → All (Fits packages room) ds → list_all is_proper ds ≡ true
  items_proper [] all = refl
  items_proper (d ∷ ds) all = and_from _ _ (All-head (Fits packages room) d ds all).proper (items_proper ds (All-tail (Fits packages room) d ds all))

  items_known : (ds : List Datum) → All (Fits packages room) ds → list_all (λ d. are_known packages (object_of d)) ds ≡ true
  items_known [] all = refl
  items_known (d ∷ ds) all = and_from _ _ (All-head (Fits packages room) d ds all).known (items_known ds (All-tail (Fits packages room) d ds all))

  items_deep : (ds : List Datum) → All (Fits packages room) ds → greatest (map depth ds) ≤ room
  items_deep [] all = omega arith
  items_deep (d ∷ ds) all =
      let here = (All-head (Fits packages room) d ds all).deep in
      let later = items_deep ds (All-tail (Fits packages room) d ds all) in
      omega (arith, here, later, greatest_cons (depth d) (map depth ds))

  items_fit : (ds : List Datum) → list_all is_proper ds ≡ true → list_all (λ d. are_known packages (object_of d)) ds ≡ true
      → greatest (map depth ds) ≤ room → All (Fits packages room) ds
  items_fit [] proper known deep = All-nil (Fits packages room)
  items_fit (d ∷ ds) proper known deep =
      let p = and_parts (is_proper d) (list_all is_proper ds) proper in
      let k = and_parts (are_known packages (object_of d)) (list_all (λ d. are_known packages (object_of d)) ds) known in
      All-cons (Fits packages room) d ds (record {
        proper = p.0;
        deep = omega (arith, deep, greatest_cons (depth d) (map depth ds));
        known = k.0;
      }) (items_fit ds p.1 k.1 (omega (arith, deep, greatest_cons (depth d) (map depth ds))))

  pub list_made : (whole : ℕ) (items : List Datum) (tail : Option Datum) → room + 1 ≡ whole → 0 < length items
      → All (Fits packages room) items → FitsEnd packages room tail → Fits packages whole (Datum.List items tail)
  list_made whole items None more some all end = record {
    proper = is_proper-List items ∙ and_from (nat_lt 0 (length items)) (list_all is_proper items) (lt-ltb 0 (length items) some) (items_proper items all);
    deep = omega (arith, more, depth-List items, items_deep items all);
    known = ap (are_known packages) (object_of-List items) ∙ known_pairs packages items nil ∙ and_from _ _ (items_known items all) refl;
  }
  list_made whole items (Some t) more some all end = record {
    proper = is_proper-dotted items t ∙ and_from _ _ (and_from (nat_lt 0 (length items)) (list_all is_proper items) (lt-ltb 0 (length items) some) (items_proper items all))
        (and_from (is_proper t) (not (is_list t)) end.0.proper (ap not end.1));
    deep = omega (arith, more, depth-dotted items t, items_deep items all, end.0.deep);
    known = ap (are_known packages) (object_of-dotted items t) ∙ known_pairs packages items (object_of t) ∙ and_from _ _ (items_known items all) end.0.known;
  }

  pub vector_made : (whole : ℕ) (items : List Datum) → room + 1 ≡ whole → All (Fits packages room) items → Fits packages whole (Datum.Vector items)
  vector_made whole items more all = record {
    proper = is_proper-Vector items ∙ items_proper items all;
    deep = omega (arith, more, depth-Vector items, items_deep items all);
    known = ap (are_known packages) (object_of-Vector items) ∙ known_pairs packages items nil ∙ and_from _ _ (items_known items all) refl;
  }

-- what has parts, and fits
module _ (packages : Packages) (room : ℕ) where
  pub list_parts : (items : List Datum) (tail : Option Datum) → Fits packages room (Datum.List items tail)
      → (0 < room) × (0 < length items) × All (Fits packages (room - 1)) items × FitsEnd packages (room - 1) tail
  list_parts items None fit =
      let p = and_parts (nat_lt 0 (length items)) (list_all is_proper items) (sym (is_proper-List items) ∙ fit.proper) in
      let k = and_parts (list_all (λ d. are_known packages (object_of d)) items) (are_known packages nil)
      (sym (known_pairs packages items nil) ∙ sym (ap (are_known packages) (object_of-List items)) ∙ fit.known) in
      let deep : greatest (map depth items) + 1 ≤ room = omega (arith, depth-List items, fit.deep) in
      (omega (arith, deep), ltb-true 0 (length items) p.0, items_fit packages (room - 1) items p.1 k.0 (omega (arith, deep)), tt)
  list_parts items (Some t) fit =
      let w = and_parts (nat_lt 0 (length items) && list_all is_proper items) (is_proper t && not (is_list t)) (sym (is_proper-dotted items t) ∙ fit.proper) in
      let p = and_parts (nat_lt 0 (length items)) (list_all is_proper items) w.0 in
      let e = and_parts (is_proper t) (not (is_list t)) w.1 in
      let k = and_parts (list_all (λ d. are_known packages (object_of d)) items) (are_known packages (object_of t))
      (sym (known_pairs packages items (object_of t)) ∙ sym (ap (are_known packages) (object_of-dotted items t)) ∙ fit.known) in
      let deep : greatest (map depth items) + 1 ≤ room = omega (arith, depth-dotted items t, fit.deep) in
      let low : depth t + 1 ≤ room = omega (arith, depth-dotted items t, fit.deep) in (
        omega (arith, deep),
        ltb-true 0 (length items) p.0,
        items_fit packages (room - 1) items p.1 k.0 (omega (arith, deep)),
        (record { proper = e.0; deep = omega (arith, low); known = k.1 }, not-true (is_list t) e.1),
      )

  pub vector_parts : (items : List Datum) → Fits packages room (Datum.Vector items) → (0 < room) × All (Fits packages (room - 1)) items
  vector_parts items fit =
      let k = and_parts (list_all (λ d. are_known packages (object_of d)) items) (are_known packages nil)
      (sym (known_pairs packages items nil) ∙ sym (ap (are_known packages) (object_of-Vector items)) ∙ fit.known) in
      let deep : greatest (map depth items) + 1 ≤ room = omega (arith, depth-Vector items, fit.deep) in
      (omega (arith, deep), items_fit packages (room - 1) items (sym (is_proper-Vector items) ∙ fit.proper) k.0 (omega (arith, deep)))

  -- whether it is answered, by the whole of it
  answered_is : (d : Datum) (left : ℕ) → Fits packages room d → left + size d ≡ 1000000
      → (is_proper d && (may_be_answered packages (object_of d) && nat_le (object_depth (object_of d)) room)) ≡ true
  answered_is d left fit all =
      let large : object_size (object_of d) ≤ 1000000 = omega (arith, all, size_object d fit.proper) in
      let deep : object_depth (object_of d) ≤ room = omega (arith, fit.deep, depth_object d fit.proper) in
      and_from _ _ fit.proper (and_from _ _ (and_from _ _ (le-leb _ _ large) fit.known) (le-leb _ _ deep))

  is_fit : (d : Datum) → (is_proper d && (may_be_answered packages (object_of d) && nat_le (object_depth (object_of d)) room)) ≡ true
      → Fits packages room d × (size d ≤ 1000000)
  is_fit d e =
      let a = and_parts (is_proper d) (may_be_answered packages (object_of d) && nat_le (object_depth (object_of d)) room) e in
      let b = and_parts (may_be_answered packages (object_of d)) (nat_le (object_depth (object_of d)) room) a.1 in
      let k = and_parts (nat_le (object_size (object_of d)) 1000000) (are_known packages (object_of d)) b.0 in
      let deep : object_depth (object_of d) ≤ room = leb-true _ _ b.1 in
      let large : object_size (object_of d) ≤ 1000000 = leb-true _ _ k.0 in
      (record { proper = a.0; deep = omega (arith, deep, depth_object d a.0); known = k.1 }, omega (arith, large, size_object d a.0))

  pub answered_so : (d : Datum) (result : Bool) (left : ℕ) → (IsTrue result → Fits packages room d × (left + size d ≡ 1000000))
      → (Fits packages room d → size d ≤ 1000000 → IsTrue result)
      → result ≡ (is_proper d && (may_be_answered packages (object_of d) && nat_le (object_depth (object_of d)) room))
  answered_so d result left holds others =
      agree result _ (λ e. answered_is d left (holds e).0 (holds e).1) (λ e. others (is_fit d e).0 (is_fit d e).1)

-- ---- at a depth

module _ (packages : Packages) (nesting depth' : ℕ) (d : Datum) where
  abbrev pub stands : Bool
  stands = may_be_answered packages (object_of d) && nat_le (object_depth (object_of d) + depth') nesting

  same_room : (n : ℕ) → depth' ≤ nesting → nat_le n (nesting - depth') ≡ nat_le (n + depth') nesting
  same_room n within = same_order n (nesting - depth') (n + depth') nesting (λ e. omega (arith, e, within)) (λ e. omega (arith, e, within))

  pub within_nesting : (result : Bool) → depth' ≤ nesting
      → result ≡ (is_proper d && (may_be_answered packages (object_of d) && nat_le (object_depth (object_of d)) (nesting - depth')))
      → result ≡ (is_proper d && stands)
  within_nesting result within e =
      e ∙ ap (λ b. is_proper d && (may_be_answered packages (object_of d) && b)) (same_room (object_depth (object_of d)) within)

  pub too_deep : nesting < depth' → false ≡ (is_proper d && stands)
  too_deep over =
      none_so _ (λ e.
      let a = and_parts (is_proper d) stands e in
      let b = and_parts (may_be_answered packages (object_of d)) (nat_le (object_depth (object_of d) + depth') nesting) a.1 in
      let le : object_depth (object_of d) + depth' ≤ nesting = leb-true _ _ b.1 in
      omega (arith, le, over))

  module _ (token spaced : Bool) where
    abbrev comes : Bool → Plan Found
    comes proper = plan_after_answer packages nesting depth' token spaced (if proper then value (object_of d) else improper)

    abbrev standing : Bool → Plan Found
    standing b = elim b [
      | true ↦ gives (one token (object_of d))
      | false ↦ refuses MACRO_ANSWER 0
    ]

    pub answered_one : (is_proper d && stands) ≡ true → plan_after_answer packages nesting depth' token spaced (answer_of (One d)) ≡ gives (one token (object_of d))
    answered_one e = let a = and_parts (is_proper d) stands e in ap comes a.0 ∙ ap standing a.1

    not_answered : (proper : Bool) → (proper && stands) ≡ false → comes proper ≡ refuses MACRO_ANSWER 0
    not_answered true e = ap standing e
    not_answered false e = refl

    pub answered_not : (is_proper d && stands) ≡ false → plan_after_answer packages nesting depth' token spaced (answer_of (One d)) ≡ refuses MACRO_ANSWER 0
    answered_not e = not_answered (is_proper d) e
