-- An index that is given the order of an indicator which is new in its row, and rows whose properties are written.
--     still, next      the index of the row as it was, and with the new property
--     back      the index of the row to which a property comes back
--     indexed_set, indexed_removed, indexed_taken, indexed_push      the index of a row that is written
use Rattle.std.proofs.Common.{◌≡◌, ◌≢◌, ℕ, ◌-◌, ◌<◌, ◌≤◌, cond, None, Some, List, [], ◌∷◌, ◌++◌, length, take, set, get_or, sym, ap, subst, ◌∙◌, arith}
use Rattle.std.specs.List.{position, insert, remove}
use Rattle.std.specs.Map.{set_value}
use Rattle.std.specs.Ordering.{nat_cmp, eq_by_cmp}
use Rattle.std.specs.BTreeMap.{insert_entry, is_at}
use Rattle.std.proofs.lemmas.List.{length-map, map-append}
use Rattle.lisp_object.specs.declared.datum.Datum.{Datum}
use Rattle.property_rows.specs.declared.property.NumberedProperty.{NumberedProperty}
use Rattle.plist_state.specs.RowIndexes.{Index, Indexes, order_of, orders, indexed_order, order_in, index_at, HasRisingOrders, IsRowIndex, IsIndexedIn}
use Rattle.plist_state.proofs.Indices.{has}
use Rattle.plist_state.proofs.ListRows.{number_tied}
use Rattle.plist_state.proofs.Placing.{inserted, written_at, not_same, index_put, same_some}
use Rattle.plist_state.proofs.Indexing.{elsewhere, orders-set, orders-insert, orders-remove, orders-take, IsIndexed-insert, IsIndexed-remove, IsIndexed-take, IsIndexed-noted, IsIndexed-added}

module _ (old new : Indexes) (n : ℕ) (items : List NumberedProperty) (i o : ℕ) (x later : Index)
    (there : index_at old n ≡ Some x) (is : new ≡ set_value (is_at (nat_cmp n)) old later)
    (put : later.entries ≡ insert_entry nat_cmp x.entries i o)
    (indexed : IsIndexedIn old n items) (absent : position (has i) items ≡ None) where
  long : length (orders items) ≡ length items
  long = length-map items order_of

  unlike : (k : ℕ) → k < length (orders items) → (indexed_order (orders items) k).0 ≢ i
  unlike k lt = elsewhere items i absent k (omega (arith, long, lt))

  here : index_at new n ≡ Some later
  here = index_put old new n (Some later) (written_at old new n x later there is) (number_tied n)

  abbrev at : (y : Index) → index_at new n ≡ Some y → later ≡ y
  at y e = same_some later y (sym here ∙ e)

  pub still : IsIndexedIn new n items
  still y e =
      subst (λ (z : Index). IsRowIndex z.entries (orders items)) (at y e)
      (IsIndexed-noted x.entries later.entries (orders items) i o (inserted x.entries later.entries i o put) unlike (λ q other. not_same q i other) (number_tied i) (indexed x there))

  pub next : (HasRisingOrders (orders items) → (k : ℕ) → k < length items → (indexed_order (orders items) k).1 < o)
      → (p : NumberedProperty) → p.indicator ≡ i → p.order ≡ o → IsIndexedIn new n (items ++ p ∷ [])
  next above p is_i is_o y e =
      let one : order_of p ≡ (i, o) = λ t. (is_i t, is_o t) in
      let both : orders (items ++ p ∷ []) ≡ orders items ++ (i, o) ∷ [] = map-append order_of items (p ∷ []) ∙ ap (λ q. orders items ++ q ∷ []) one in
      subst (λ (z : Index). IsRowIndex z.entries (orders (items ++ p ∷ []))) (at y e)
      (subst (IsRowIndex later.entries) (sym both)
      (IsIndexed-added x.entries later.entries (orders items) i o (inserted x.entries later.entries i o put) unlike (λ q other. not_same q i other) (number_tied i) (indexed x there)
      (λ k lt. above (indexed x there).rising k (omega (arith, long, lt)))))

-- ---- a property comes back to a place of its row, and the index is given its order
module _ (old new : Indexes) (n : ℕ) (items : List NumberedProperty) (p : NumberedProperty) (k : ℕ) (x later : Index)
    (there : index_at old n ≡ Some x) (is : new ≡ set_value (is_at (nat_cmp n)) old later)
    (put : (q : ℕ) → order_in later.entries q ≡ cond (eq_by_cmp nat_cmp q p.indicator) (Some p.order) (order_in x.entries q))
    (indexed : IsIndexedIn old n items) (absent : position (has p.indicator) items ≡ None) (within : k ≤ length items)
    (low : 0 < k → (indexed_order (orders items) (k - 1)).1 < p.order) (high : k < length items → p.order < (indexed_order (orders items) k).1) where
  as_long : length (orders items) ≡ length items
  as_long = length-map items order_of

  none : (j : ℕ) → j < length (orders items) → (indexed_order (orders items) j).0 ≢ p.indicator
  none j lt = elsewhere items p.indicator absent j (omega (arith, as_long, lt))

  known : order_in later.entries p.indicator ≡ Some p.order
  known = put p.indicator ∙ ap (λ b. cond b (Some p.order) (order_in x.entries p.indicator)) (number_tied p.indicator)

  learnt : IsRowIndex later.entries (orders items)
  learnt = IsIndexed-noted x.entries later.entries (orders items) p.indicator p.order put none (λ q other. not_same q p.indicator other) (number_tied p.indicator) (indexed x there)

  pub back : IsIndexedIn new n (insert items k p)
  back y e =
      let same : later ≡ y = same_some later y (sym (index_put old new n (Some later) (written_at old new n x later there is) (number_tied n)) ∙ e) in
      subst (λ (z : Index). IsRowIndex z.entries (orders (insert items k p))) same
      (subst (IsRowIndex later.entries) (sym (orders-insert items k p))
      (IsIndexed-insert later.entries (orders items) k p.indicator p.order (omega (arith, as_long, within)) known low
      (λ lt. high (omega (arith, as_long, lt))) learnt))

-- ---- a row that is written, and the indexes as they are
module _ (indexes : Indexes) (n : ℕ) (items : List NumberedProperty) (indexed : IsIndexedIn indexes n items) where
  pub indexed_same : (later : List NumberedProperty) → later ≡ items → IsIndexedIn indexes n later
  indexed_same later is = subst (IsIndexedIn indexes n) (sym is) indexed

  pub indexed_set : (k : ℕ) (p : NumberedProperty) (v : Datum) → p ≡ get_or items k p → IsIndexedIn indexes n (set items k (record { indicator = p.indicator; order = p.order; value = v }))
  indexed_set k p v is y e = subst (IsRowIndex y.entries) (sym (orders-set items k p v is)) (indexed y e)

  pub indexed_removed : (k : ℕ) (later : List NumberedProperty) → k < length items → later ≡ remove items k → IsIndexedIn indexes n later
  indexed_removed k later less is y e =
      subst (λ xs. IsRowIndex y.entries (orders xs)) (sym is)
      (subst (IsRowIndex y.entries) (sym (orders-remove items k))
      (IsIndexed-remove y.entries (orders items) k (let long : length (orders items) ≡ length items = length-map items order_of in omega (arith, long, less)) (indexed y e)))

  pub indexed_taken : (k : ℕ) (later : List NumberedProperty) → k ≤ length items → later ≡ take k items → IsIndexedIn indexes n later
  indexed_taken k later less is y e =
      subst (λ xs. IsRowIndex y.entries (orders xs)) (sym is)
      (subst (IsRowIndex y.entries) (sym (orders-take k items))
      (IsIndexed-take y.entries (orders items) k (let long : length (orders items) ≡ length items = length-map items order_of in omega (arith, long, less)) (indexed y e)))
