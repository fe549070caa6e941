-- The index of a row of properties.
--     nth_is, nth_read      a property of a row, by its place
--     placed, unplaced, elsewhere      `position`, from the places at which an indicator stands, and back
--     unknown, unmatched, mismatched, matched      what the index says of an indicator
--     orders-set, orders-remove      the orders of a row that is written
--     IsIndexed-nil, IsIndexed-remove, IsIndexed-take, IsIndexed-noted, IsIndexed-added, IsIndexed-next, IsIndexed-insert      an index stays one
use Rattle.std.proofs.Common.{◌≡◌, ◌≢◌, ℕ, zero, suc, ◌+◌, ◌-◌, ◌<◌, ◌≤◌, true, false, cond, None, Some, unwrap_or, List, [], ◌∷◌, ◌++◌, length, take, get_or, set, refl, sym, ap, subst, ◌∙◌, arith}
use Rattle.std.specs.List.{position, position_from, insert, remove}
use Rattle.std.specs.Ordering.{nat_cmp, eq_by_cmp}
use Rattle.std.proofs.lemmas.Bool.Decides.{nat_tests}
use Rattle.std.proofs.lemmas.Iterator.Adapters.{position_from-zero}
use Rattle.std.specs.Prelude.{nat_lt, is_some}
use Rattle.std.proofs.Math.Seq.{get_or-append_seam, take-suc}
use Rattle.std.proofs.lemmas.Bool.{false≢true}
use Rattle.std.proofs.lemmas.List.{length_push, length-map, length-take-le, get_or-take, get_or_append_left}
use Rattle.std.proofs.lemmas.List.Edits.{length-insert, length-remove, get_or-insert_above, get_or-insert_at, get_or-insert_below, get_or-remove_above, get_or-remove_below}
use Rattle.lisp_object.specs.declared.datum.Datum.{Datum}
use Rattle.property_rows.specs.declared.property.NumberedProperty.{NumberedProperty}
use Rattle.plist_state.specs.Lists.{same_number}
use Rattle.plist_state.specs.RowIndexes.{Orders, order_of, orders, indexed_order, order_in, HasRisingOrders, IsRowIndex}
use Rattle.plist_state.proofs.Indices.{has, item_at}
use Rattle.plist_state.proofs.ListRows.{number_tied}
use Rattle.plist_state.proofs.Placing.{not_same}

pub nth_is : (items : List NumberedProperty) (k : ℕ) → indexed_order (orders items) k ≡ order_of (item_at items k)
nth_is [] k = refl
nth_is (p ∷ ps) zero = refl
nth_is (p ∷ ps) (suc k) = nth_is ps k

-- its indicator and its order, as a row gives them
pub nth_read : (items : List NumberedProperty) (k i o : ℕ) → i ≡ (item_at items k).indicator → o ≡ (item_at items k).order → indexed_order (orders items) k ≡ (i, o)
nth_read items k i o same_i same_o = nth_is items k ∙ (λ t. (sym same_i t, sym same_o t))

-- ---- places
placed_from : (items : List NumberedProperty) (i k n : ℕ) → k < length items → (indexed_order (orders items) k).0 ≡ i → ((j : ℕ) → j < k → (indexed_order (orders items) j).0 ≢ i) → position_from (has i) n items ≡ Some (n + k)
placed_from [] i k n less is none = absurd (omega (arith, less))
placed_from (p ∷ ps) i zero n less is none =
    let here : same_number i p.indicator ≡ true = grind (arith, nat_tests, is) in
    ap (λ b. cond b (Some n) (position_from (has i) (n + 1) ps)) here ∙ ap Some (omega arith)
placed_from (p ∷ ps) i (suc k) n less is none =
    let there : same_number i p.indicator ≡ false = grind (arith, nat_tests, none 0 (omega arith)) in
    ap (λ b. cond b (Some n) (position_from (has i) (n + 1) ps)) there
    ∙ placed_from ps i k (n + 1) (omega (arith, less)) is (λ j lt. none (suc j) (omega (arith, lt)))
    ∙ ap Some (omega arith)

pub placed : (items : List NumberedProperty) (i k : ℕ) → k < length items → (indexed_order (orders items) k).0 ≡ i → ((j : ℕ) → j < k → (indexed_order (orders items) j).0 ≢ i) → position (has i) items ≡ Some k
placed items i k less is none = position_from-zero (has i) items ∙ placed_from items i k 0 less is none ∙ ap Some (omega arith)

unplaced_from : (items : List NumberedProperty) (i n : ℕ) → ((k : ℕ) → k < length items → (indexed_order (orders items) k).0 ≢ i) → position_from (has i) n items ≡ None
unplaced_from [] i n none = refl
unplaced_from (p ∷ ps) i n none =
    let there : same_number i p.indicator ≡ false = grind (arith, nat_tests, none 0 (omega arith)) in
    ap (λ b. cond b (Some n) (position_from (has i) (n + 1) ps)) there
    ∙ unplaced_from ps i (n + 1) (λ k lt. none (suc k) (omega (arith, lt)))

pub unplaced : (items : List NumberedProperty) (i : ℕ) → ((k : ℕ) → k < length items → (indexed_order (orders items) k).0 ≢ i) → position (has i) items ≡ None
unplaced items i none = position_from-zero (has i) items ∙ unplaced_from items i 0 none

elsewhere_at : (p : NumberedProperty) (ps : List NumberedProperty) (i : ℕ) → has i p ≡ false → ((k : ℕ) → k < length ps → (indexed_order (orders ps) k).0 ≢ i)
    → (k : ℕ) → k < length (p ∷ ps) → (indexed_order (orders (p ∷ ps)) k).0 ≢ i
elsewhere_at p ps i t none zero less same = grind (arith, nat_tests, t, same)
elsewhere_at p ps i t none (suc k) less same = none k (omega (arith, less)) same

elsewhere_from : (items : List NumberedProperty) (i n : ℕ) → position_from (has i) n items ≡ None → (k : ℕ) → k < length items → (indexed_order (orders items) k).0 ≢ i
elsewhere_from [] i n is = λ k less. absurd (omega (arith, less))
elsewhere_from (p ∷ ps) i n is =
    elim (has i p) as (λ b. has i p ≡ b → cond b (Some n) (position_from (has i) (n + 1) ps) ≡ None → (k : ℕ) → k < length (p ∷ ps) → (indexed_order (orders (p ∷ ps)) k).0 ≢ i) [
      | true ↦ λ t e k less. absurd (cc)
      | false ↦ λ t e. elsewhere_at p ps i t (elsewhere_from ps i (n + 1) e)
    ] refl is

pub elsewhere : (items : List NumberedProperty) (i : ℕ) → position (has i) items ≡ None → (k : ℕ) → k < length items → (indexed_order (orders items) k).0 ≢ i
elsewhere items i is = elsewhere_from items i 0 (sym (position_from-zero (has i) items) ∙ is)

-- ---- what an index says
same_order : (a b : ℕ) → Some a ≡ Some b → a ≡ b
same_order a b e = ap (λ o. unwrap_or o a) e

module _ (x : Orders) (items : List NumberedProperty) (indexed : IsRowIndex x (orders items)) (i : ℕ) where
  -- the order of each property with this indicator
  known : (k : ℕ) → k < length items → (indexed_order (orders items) k).0 ≡ i → order_in x i ≡ Some (indexed_order (orders items) k).1
  known k less is =
      subst (λ j. order_in x j ≡ Some (indexed_order (orders items) k).1) is
      (indexed.finds k (let long : length (orders items) ≡ length items = length-map items order_of in omega (arith, long, less)))

  pub unknown : order_in x i ≡ None → position (has i) items ≡ None
  unknown none = unplaced items i (λ k less is. let e : None ≡ Some (indexed_order (orders items) k).1 = sym none ∙ known k less is in cc)

  module _ (o : ℕ) (has_order : order_in x i ≡ Some o) where
    ordered : (k : ℕ) → k < length items → (indexed_order (orders items) k).0 ≡ i → (indexed_order (orders items) k).1 ≡ o
    ordered k less is = same_order _ _ (sym (known k less is) ∙ has_order)

    pub unmatched : ((k : ℕ) → k < length items → (indexed_order (orders items) k).1 ≢ o) → position (has i) items ≡ None
    unmatched none = unplaced items i (λ k less is. none k less (ordered k less is))

    module _ (k : ℕ) (less : k < length items) (is : (indexed_order (orders items) k).1 ≡ o) where
      rise : (a b : ℕ) → a < b → b < length items → (indexed_order (orders items) a).1 < (indexed_order (orders items) b).1
      rise a b lt within = indexed.rising a b lt (let long : length (orders items) ≡ length items = length-map items order_of in omega (arith, long, within))

      pub mismatched : (indexed_order (orders items) k).0 ≢ i → position (has i) items ≡ None
      mismatched other = unplaced items i (λ j within same.
          let equal : (indexed_order (orders items) j).1 ≡ o = ordered j within same in
          let here : j ≡ k → (indexed_order (orders items) k).0 ≡ i = λ e. subst (λ m. (indexed_order (orders items) m).0 ≡ i) e same in
          grind (arith, equal, is, here, other, rise j k, rise k j, within, less))

      pub matched : (indexed_order (orders items) k).0 ≡ i → position (has i) items ≡ Some k
      matched here = placed items i k less here (λ j lt same.
          let within : j < length items = omega (arith, lt, less) in
          let equal : (indexed_order (orders items) j).1 ≡ o = ordered j within same in
          omega (arith, equal, is, rise j k lt less))

-- ---- what stays an index
pub orders-set : (items : List NumberedProperty) (k : ℕ) (p : NumberedProperty) (v : Datum) → p ≡ get_or items k p → orders (set items k (record { indicator = p.indicator; order = p.order; value = v })) ≡ orders items
orders-set [] k p v e = refl
orders-set (q ∷ qs) zero p v e = ap (λ (t : NumberedProperty). order_of t ∷ orders qs) e
orders-set (q ∷ qs) (suc k) p v e = ap (λ ps. order_of q ∷ ps) (orders-set qs k p v e)

pub orders-remove : (items : List NumberedProperty) (k : ℕ) → orders (remove items k) ≡ remove (orders items) k
orders-remove [] zero = refl
orders-remove [] (suc k) = refl
orders-remove (q ∷ qs) zero = refl
orders-remove (q ∷ qs) (suc k) = ap (λ ps. order_of q ∷ ps) (orders-remove qs k)

pub orders-take : (n : ℕ) (items : List NumberedProperty) → orders (take n items) ≡ take n (orders items)
orders-take zero items = refl
orders-take (suc n) [] = refl
orders-take (suc n) (q ∷ qs) = ap (λ ps. order_of q ∷ ps) (orders-take n qs)

pub IsIndexed-nil : (x : Orders) → IsRowIndex x []
IsIndexed-nil x = record {
  finds = λ k less. absurd (omega (arith, less));
  rising = λ i j lt less. absurd (omega (arith, less));
}

pub IsIndexed-remove : (x ks : Orders) (k : ℕ) → k < length ks → IsRowIndex x ks → IsRowIndex x (remove ks k)
IsIndexed-remove x ks k within indexed =
    let long : length (remove ks k) + 1 ≡ length ks = length-remove ks k within in
    let below : (j : ℕ) → j < k → indexed_order (remove ks k) j ≡ indexed_order ks j = λ j lt. get_or-remove_below ks k (0, 0) j lt within in
    let above : (j : ℕ) → k ≤ j → indexed_order (remove ks k) j ≡ indexed_order ks (j + 1) = λ j le. get_or-remove_above ks k (0, 0) j le within in
    let at : (j : ℕ) → (m : ℕ) × (indexed_order (remove ks k) j ≡ indexed_order ks m) × (j ≤ m) × (m ≤ j + 1) × (j < k → m ≡ j) × (k ≤ j → m ≡ j + 1) = λ j. moved j below above in
    record {
      finds = λ j less.
          let (m, is, low, high, left, right) = at j in
          subst (λ (p : ℕ × ℕ). order_in x p.0 ≡ Some p.1) (sym is) (indexed.finds m (omega (arith, long, less, high)));
      rising = λ i j lt less.
          let (m, is, low, high, left, right) = at i in
          let (n, same, under, over, first, second) = at j in
          let a : (indexed_order (remove ks k) i).1 ≡ (indexed_order ks m).1 = ap (λ (p : ℕ × ℕ). p.1) is in
          let b : (indexed_order (remove ks k) j).1 ≡ (indexed_order ks n).1 = ap (λ (p : ℕ × ℕ). p.1) same in
          let rise : (indexed_order ks m).1 < (indexed_order ks n).1 = indexed.rising m n (grind (arith, left, right, first, second, lt)) (omega (arith, long, less, over)) in
          omega (arith, a, b, rise);
    }
  where
    moved : (j : ℕ) → ((j : ℕ) → j < k → indexed_order (remove ks k) j ≡ indexed_order ks j) → ((j : ℕ) → k ≤ j → indexed_order (remove ks k) j ≡ indexed_order ks (j + 1)) → (m : ℕ) × (indexed_order (remove ks k) j ≡ indexed_order ks m) × (j ≤ m) × (m ≤ j + 1) × (j < k → m ≡ j) × (k ≤ j → m ≡ j + 1)
    moved j below above = elim (nat_lt j k) as (λ b. nat_lt j k ≡ b → (m : ℕ) × (indexed_order (remove ks k) j ≡ indexed_order ks m) × (j ≤ m) × (m ≤ j + 1) × (j < k → m ≡ j) × (k ≤ j → m ≡ j + 1)) [
      | true ↦ λ t. (j, below j (grind (arith, nat_tests, t)), omega arith, omega arith, λ lt. refl, λ le. absurd (grind (arith, nat_tests, t, le)))
      | false ↦ λ t. (j + 1, above j (grind (arith, nat_tests, t)), omega arith, omega arith, λ lt. absurd (grind (arith, nat_tests, t, lt)), λ le. refl)
    ] refl

pub IsIndexed-take : (x ks : Orders) (n : ℕ) → n ≤ length ks → IsRowIndex x ks → IsRowIndex x (take n ks)
IsIndexed-take x ks n within indexed =
    let long : length (take n ks) ≡ n = length-take-le n ks within in
    let at : (j : ℕ) → j < n → indexed_order (take n ks) j ≡ indexed_order ks j = λ j lt. get_or-take n ks j (0, 0) lt in
    record {
      finds = λ j less. subst (λ (p : ℕ × ℕ). order_in x p.0 ≡ Some p.1) (sym (at j (omega (arith, long, less)))) (indexed.finds j (omega (arith, long, less, within)));
      rising = λ i j lt less.
          let a : (indexed_order (take n ks) i).1 ≡ (indexed_order ks i).1 = ap (λ (p : ℕ × ℕ). p.1) (at i (omega (arith, long, less, lt))) in
          let b : (indexed_order (take n ks) j).1 ≡ (indexed_order ks j).1 = ap (λ (p : ℕ × ℕ). p.1) (at j (omega (arith, long, less))) in
          omega (arith, a, b, indexed.rising i j lt (omega (arith, long, less, within)));
    }

-- an indicator more in the index, which the row does not have
module _ (x later ks : Orders) (i o : ℕ)
    (put : (q : ℕ) → order_in later q ≡ cond (eq_by_cmp nat_cmp q i) (Some o) (order_in x q))
    (absent : (k : ℕ) → k < length ks → (indexed_order ks k).0 ≢ i)
    (other : (q : ℕ) → q ≢ i → eq_by_cmp nat_cmp q i ≡ false) (same : eq_by_cmp nat_cmp i i ≡ true)
    (indexed : IsRowIndex x ks) where
  pub IsIndexed-noted : IsRowIndex later ks
  IsIndexed-noted = record {
    finds = λ k less.
        put (indexed_order ks k).0 ∙ ap (λ b. cond b (Some o) (order_in x (indexed_order ks k).0)) (other (indexed_order ks k).0 (absent k less)) ∙ indexed.finds k less;
    rising = indexed.rising;
  }

  -- the property of this order is there
  pub IsIndexed-added : ((k : ℕ) → k < length ks → (indexed_order ks k).1 < o) → IsRowIndex later (ks ++ (i, o) ∷ [])
  IsIndexed-added above =
      let long : length (ks ++ (i, o) ∷ []) ≡ length ks + 1 = omega (arith, length_push ks (i, o)) in
      let left : (k : ℕ) → k < length ks → indexed_order (ks ++ (i, o) ∷ []) k ≡ indexed_order ks k = λ k lt. get_or_append_left ks ((i, o) ∷ []) (0, 0) k lt in
      let last : indexed_order (ks ++ (i, o) ∷ []) (length ks) ≡ (i, o) = get_or-append_seam ks (i, o) [] (0, 0) in
      record {
        finds = λ k less. elim (nat_lt k (length ks)) as (λ b. nat_lt k (length ks) ≡ b → order_in later (indexed_order (ks ++ (i, o) ∷ []) k).0 ≡ Some (indexed_order (ks ++ (i, o) ∷ []) k).1) [
          | true ↦ λ t.
              let lt : k < length ks = grind (arith, nat_tests, t) in
              subst (λ (p : ℕ × ℕ). order_in later p.0 ≡ Some p.1) (sym (left k lt)) (IsIndexed-noted.finds k lt)
          | false ↦ λ t.
              let is : k ≡ length ks = grind (arith, nat_tests, t, long, less) in
              subst (λ (p : ℕ × ℕ). order_in later p.0 ≡ Some p.1) (sym (ap (indexed_order (ks ++ (i, o) ∷ [])) is ∙ last)) (put i ∙ ap (λ b. cond b (Some o) (order_in x i)) same)
        ] refl;
        rising = λ a b lt less. elim (nat_lt b (length ks)) as (λ t. nat_lt b (length ks) ≡ t → (indexed_order (ks ++ (i, o) ∷ []) a).1 < (indexed_order (ks ++ (i, o) ∷ []) b).1) [
          | true ↦ λ t.
              let within : b < length ks = grind (arith, nat_tests, t) in
              let p : (indexed_order (ks ++ (i, o) ∷ []) a).1 ≡ (indexed_order ks a).1 = ap (λ (p : ℕ × ℕ). p.1) (left a (omega (arith, lt, within))) in
              let q : (indexed_order (ks ++ (i, o) ∷ []) b).1 ≡ (indexed_order ks b).1 = ap (λ (p : ℕ × ℕ). p.1) (left b within) in
              omega (arith, p, q, indexed.rising a b lt within)
          | false ↦ λ t.
              let is : b ≡ length ks = grind (arith, nat_tests, t, long, less) in
              let p : (indexed_order (ks ++ (i, o) ∷ []) a).1 ≡ (indexed_order ks a).1 = ap (λ (p : ℕ × ℕ). p.1) (left a (omega (arith, lt, is))) in
              let q : (indexed_order (ks ++ (i, o) ∷ []) b).1 ≡ o = ap (λ (p : ℕ × ℕ). p.1) (ap (indexed_order (ks ++ (i, o) ∷ [])) is ∙ last) in
              omega (arith, p, q, above a (omega (arith, lt, is)))
        ] refl;
      }

-- the next property of a row, in the index of those before it
module _ (x later : Orders) (items : List NumberedProperty) (n next i o : ℕ) (less : n < length items) (here : indexed_order (orders items) n ≡ (i, o))
    (indexed : IsRowIndex x (take n (orders items))) (below : (k : ℕ) → k < n → (indexed_order (orders items) k).1 < next) (high : next ≤ o)
    (new : is_some (order_in x i) ≡ false)
    (put : (q : ℕ) → order_in later q ≡ cond (eq_by_cmp nat_cmp q i) (Some o) (order_in x q)) where
  long : length (orders items) ≡ length items
  long = length-map items order_of

  cut : length (take n (orders items)) ≡ n
  cut = length-take-le n (orders items) (omega (arith, long, less))

  unlike : (k : ℕ) → k < length (take n (orders items)) → (indexed_order (take n (orders items)) k).0 ≢ i
  unlike k lt same =
      let there : is_some (order_in x i) ≡ true = ap (λ i. is_some (order_in x i)) (sym same) ∙ ap is_some (indexed.finds k lt) in
      false≢true (sym new ∙ there)

  pub IsIndexed-next : IsRowIndex later (take (n + 1) (orders items))
  IsIndexed-next =
      subst (IsRowIndex later) (sym more)
      (IsIndexed-added x later (take n (orders items)) i o put unlike (λ q other. not_same q i other) (number_tied i) indexed
      (λ k lt.
      let same : (indexed_order (take n (orders items)) k).1 ≡ (indexed_order (orders items) k).1 = ap (λ (e : ℕ × ℕ). e.1) (get_or-take n (orders items) k (0, 0) (omega (arith, cut, lt))) in
      omega (arith, same, below k (omega (arith, cut, lt)), high)))
    where
      one_more : n + 1 ≡ suc n
      one_more = omega arith

      more : take (n + 1) (orders items) ≡ take n (orders items) ++ (i, o) ∷ []
      more = ap (λ m. take m (orders items)) one_more ∙ take-suc (orders items) n (0, 0) (omega (arith, length-map items order_of, less))
          ∙ ap (λ e. take n (orders items) ++ e ∷ []) here

  pub below_next : (above : ℕ) → o < above → (k : ℕ) → k < n + 1 → (indexed_order (orders items) k).1 < above
  below_next above more k lt =
      let last : (indexed_order (orders items) n).1 ≡ o = ap (λ (e : ℕ × ℕ). e.1) here in
      let at : k ≡ n → (indexed_order (orders items) k).1 ≡ o = λ e. ap (λ m. (indexed_order (orders items) m).1) e ∙ last in
      grind (arith, at, below k, high, more, lt)

-- all properties of a row were passed
pub passed : (n : ℕ) (ks : Orders) → length ks ≤ n → take n ks ≡ ks
passed zero [] le = refl
passed (suc n) [] le = refl
passed zero (k ∷ ks) le = absurd (omega (arith, le))
passed (suc n) (k ∷ ks) le = ap (λ js. k ∷ js) (passed n ks (omega (arith, le)))

-- the order of the last property is the greatest
pub above_last : (items : List NumberedProperty) (o : ℕ) → o ≡ (item_at items (length items - 1)).order → HasRisingOrders (orders items)
    → (k : ℕ) → k < length items → (next : ℕ) → o < next → (indexed_order (orders items) k).1 < next
above_last items o is rising k less next more =
    let long : length (orders items) ≡ length items = length-map items order_of in
    let end : (indexed_order (orders items) (length items - 1)).1 ≡ o = ap (λ (e : ℕ × ℕ). e.1) (nth_is items (length items - 1)) ∙ sym is in
    let at : k ≡ length items - 1 → (indexed_order (orders items) k).1 ≡ o = λ e. ap (λ m. (indexed_order (orders items) m).1) e ∙ end in
    grind (arith, long, end, at, rising k (length items - 1), less, more)

-- a property that comes to a place where the orders rise, and that the index has
pub orders-insert : (items : List NumberedProperty) (k : ℕ) (p : NumberedProperty) → orders (insert items k p) ≡ insert (orders items) k (order_of p)
orders-insert [] zero p = refl
orders-insert [] (suc k) p = refl
orders-insert (q ∷ qs) zero p = refl
orders-insert (q ∷ qs) (suc k) p = ap (λ ps. order_of q ∷ ps) (orders-insert qs k p)

module _ (x ks : Orders) (k i o : ℕ) (within : k ≤ length ks) (has_order : order_in x i ≡ Some o)
    (low : 0 < k → (indexed_order ks (k - 1)).1 < o) (high : k < length ks → o < (indexed_order ks k).1) (indexed : IsRowIndex x ks) where
  abbrev later : Orders
  later = insert ks k (i, o)

  one_more_long : length later ≡ length ks + 1
  one_more_long = length-insert ks k (i, o) within

  kept_before : (j : ℕ) → j < k → indexed_order later j ≡ indexed_order ks j
  kept_before j lt = get_or-insert_below ks k (i, o) (0, 0) j lt within

  put_here : (j : ℕ) → j ≡ k → indexed_order later j ≡ (i, o)
  put_here j is = ap (indexed_order later) is ∙ get_or-insert_at ks k (i, o) (0, 0) within

  moved_after : (j : ℕ) → k < j → indexed_order later j ≡ indexed_order ks (j - 1)
  moved_after j lt =
      let is : j ≡ (j - 1) + 1 = omega (arith, lt) in
      ap (indexed_order later) is ∙ get_or-insert_above ks k (i, o) (0, 0) (j - 1) (omega (arith, lt)) within

  -- by where a place is
  by_place : (j : ℕ) (P : Type 0) → (j < k → P) → (j ≡ k → P) → (k < j → P) → P
  by_place j P a b c = elim (nat_lt j k) as (λ t. nat_lt j k ≡ t → P) [
    | true ↦ λ t. a (grind (arith, nat_tests, t))
    | false ↦ λ t. elim (nat_lt k j) as (λ u. nat_lt k j ≡ u → P) [
      | true ↦ λ u. c (grind (arith, nat_tests, u))
      | false ↦ λ u. b (grind (arith, nat_tests, t, u))
    ] refl
  ] refl

  rises_to : (a b : ℕ) → a ≤ b → b < length ks → (indexed_order ks a).1 ≤ (indexed_order ks b).1
  rises_to a b le less = grind (arith, indexed.rising a b, λ (same : a ≡ b). ap (λ m. (indexed_order ks m).1) same, le, less)

  finds_each : (j : ℕ) → j < length ks + 1 → order_in x (indexed_order later j).0 ≡ Some (indexed_order later j).1
  finds_each j less = by_place j (order_in x (indexed_order later j).0 ≡ Some (indexed_order later j).1)
      (λ lt. subst (λ (p : ℕ × ℕ). order_in x p.0 ≡ Some p.1) (sym (kept_before j lt)) (indexed.finds j (omega (arith, lt, within))))
      (λ is. subst (λ (p : ℕ × ℕ). order_in x p.0 ≡ Some p.1) (sym (put_here j is)) has_order)
      (λ lt. subst (λ (p : ℕ × ℕ). order_in x p.0 ≡ Some p.1) (sym (moved_after j lt)) (indexed.finds (j - 1) (omega (arith, lt, less))))

  order_same : (p q : ℕ × ℕ) → p ≡ q → p.1 ≡ q.1
  order_same p q e = ap (λ (r : ℕ × ℕ). r.1) e

  rises_on : (a b : ℕ) → a < b → b < length ks + 1 → (indexed_order later a).1 < (indexed_order later b).1
  rises_on a b lt less = by_place b ((indexed_order later a).1 < (indexed_order later b).1)
      (λ left.
      let p : (indexed_order later a).1 ≡ (indexed_order ks a).1 = order_same _ _ (kept_before a (omega (arith, lt, left))) in
      let q : (indexed_order later b).1 ≡ (indexed_order ks b).1 = order_same _ _ (kept_before b left) in
      omega (arith, p, q, indexed.rising a b lt (omega (arith, left, within))))
      (λ is.
      let p : (indexed_order later a).1 ≡ (indexed_order ks a).1 = order_same _ _ (kept_before a (omega (arith, lt, is))) in
      let q : (indexed_order later b).1 ≡ o = order_same _ _ (put_here b is) in
      omega (arith, p, q, rises_to a (k - 1) (omega (arith, lt, is)) (omega (arith, lt, is, within)), low (omega (arith, lt, is))))
      (λ right. let q : (indexed_order later b).1 ≡ (indexed_order ks (b - 1)).1 = order_same _ _ (moved_after b right) in
      by_place a ((indexed_order later a).1 < (indexed_order later b).1)
      (λ left.
      let p : (indexed_order later a).1 ≡ (indexed_order ks a).1 = order_same _ _ (kept_before a left) in
      omega (arith, p, q, indexed.rising a (b - 1) (omega (arith, left, right)) (omega (arith, less, right))))
      (λ is.
      let p : (indexed_order later a).1 ≡ o = order_same _ _ (put_here a is) in
      omega (arith, p, q, high (omega (arith, less, right)), rises_to k (b - 1) (omega (arith, right)) (omega (arith, less, right))))
      (λ on.
      let p : (indexed_order later a).1 ≡ (indexed_order ks (a - 1)).1 = order_same _ _ (moved_after a on) in
      omega (arith, p, q, indexed.rising (a - 1) (b - 1) (omega (arith, on, lt)) (omega (arith, less, right)))))

  pub IsIndexed-insert : IsRowIndex x later
  IsIndexed-insert = record {
    finds = λ j less. finds_each j (omega (arith, one_more_long, less));
    rising = λ a b lt less. rises_on a b lt (omega (arith, one_more_long, less));
  }
