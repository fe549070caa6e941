-- Trees by numbers, and the indexes of rows in one.
--     inserted, written_at, taken      what `insert`, a write through `get_mut` and `remove` leave
--     not_same      two numbers that differ
--     others_inserted, others_written, others_taken      the indexes of the other numbers
--     are_indexed      one row is written, and its index
use Rattle.std.proofs.Common.{◌≡◌, ◌≢◌, ℕ, true, false, cond, Option, None, Some, unwrap_or, List, refl, sym, ap, subst, ◌∙◌}
use Rattle.std.specs.Option.{option_map, IsSome}
use Rattle.std.specs.Ordering.{nat_cmp, eq_by_cmp}
use Rattle.std.specs.List.Sorted.{IsStrictlySortedBy}
use Rattle.std.specs.Map.{lookup, keys_of, set_value, remove_entry}
use Rattle.std.specs.BTreeMap.{insert_entry, is_at}
use Rattle.std.specs.FinMap.{find}
use Rattle.std.proofs.lemmas.Cmp.{nat_cmp_total}
use Rattle.lisp_object.proofs.Tree as tree
use Rattle.property_rows.specs.Rows.{PropertyRow}
use Rattle.plist_state.specs.Views.{Rows, row_at}
use Rattle.plist_state.specs.RowIndexes.{Index, Indexes, index_at, orders, IsRowIndex, IsIndexedIn, AreRowIndexes, KeepsOthers}
use Rattle.plist_state.proofs.ListRows.{one_number, IsPut}

module _ {V : Type 0} where
  abbrev pub value_at : List (ℕ × V) → ℕ → Option V
  value_at es q = lookup (is_at (nat_cmp q)) es

  abbrev read : List (ℕ × V) → List (ℕ × V)
  read es = tree.read (λ (n : ℕ). n) (λ (v : V). v) nat_cmp es

  value_is : (es : List (ℕ × V)) (q : ℕ) → value_at es q ≡ find nat_cmp q (read es)
  value_is es q = sym (tree.find_at (λ (n : ℕ). n) (λ (v : V). v) nat_cmp q es ∙ same (value_at es q))
    where
      same : (o : Option V) → option_map (λ v. v) o ≡ o
      same None = refl
      same (Some v) = refl

  -- the same values, but for one
  abbrev pub IsPutAt : List (ℕ × V) → List (ℕ × V) → ℕ → Option V → Type 0
  IsPutAt es later x v = (q : ℕ) → value_at later q ≡ cond (eq_by_cmp nat_cmp q x) v (value_at es q)

  pub inserted : (es later : List (ℕ × V)) (x : ℕ) (v : V) → later ≡ insert_entry nat_cmp es x v → IsPutAt es later x (Some v)
  inserted es later x v is q =
      ap (λ es. value_at es q) is ∙ value_is (insert_entry nat_cmp es x v) q
      ∙ tree.find_read-insert (λ (n : ℕ). n) (λ (v : V). v) nat_cmp nat_cmp_total x v es q
      ∙ ap (cond (eq_by_cmp nat_cmp q x) (Some v)) (sym (value_is es q))

  pub written_at : (es later : List (ℕ × V)) (x : ℕ) (old v : V) → value_at es x ≡ Some old → later ≡ set_value (is_at (nat_cmp x)) es v → IsPutAt es later x (Some v)
  written_at es later x old v there is q =
      ap (λ es. value_at es q) is ∙ value_is (set_value (is_at (nat_cmp x)) es v) q
      ∙ tree.find_set_at (λ (n : ℕ). n) (λ (v : V). v) nat_cmp nat_cmp_total x v es q (subst (λ (o : Option V). IsSome o) (sym there) refl)
      ∙ ap (cond (eq_by_cmp nat_cmp q x) (Some v)) (sym (value_is es q))

  pub taken : (es later : List (ℕ × V)) (x : ℕ) → later ≡ remove_entry (is_at (nat_cmp x)) es → IsStrictlySortedBy nat_cmp (keys_of es) → IsPutAt es later x None
  taken es later x is sorted q =
      ap (λ es. value_at es q) is ∙ value_is (remove_entry (is_at (nat_cmp x)) es) q
      ∙ tree.find_remove_at (λ (n : ℕ). n) (λ (v : V). v) nat_cmp nat_cmp_total x es q sorted
      ∙ ap (cond (eq_by_cmp nat_cmp q x) None) (sym (value_is es q))

pub not_same : (q x : ℕ) → q ≢ x → eq_by_cmp nat_cmp q x ≡ false
not_same q x other =
    elim (eq_by_cmp nat_cmp q x) as (λ b. eq_by_cmp nat_cmp q x ≡ b → eq_by_cmp nat_cmp q x ≡ false) [
      | true ↦ λ t. absurd (other (one_number q x t))
      | false ↦ λ t. t
    ] refl

-- ---- indexes
pub others_put : (old new : Indexes) (x : ℕ) (o : Option Index) → IsPutAt old new x o → KeepsOthers old new x
others_put old new x o put q other = put q ∙ ap (λ b. cond b o (index_at old q)) other

pub index_put : (old new : Indexes) (x : ℕ) (o : Option Index) → IsPutAt old new x o → eq_by_cmp nat_cmp x x ≡ true → index_at new x ≡ o
index_put old new x o put same = put x ∙ ap (λ b. cond b o (index_at old x)) same

pub others_both : (a b c : Indexes) (x : ℕ) → KeepsOthers a b x → KeepsOthers b c x → KeepsOthers a c x
others_both a b c x s t q other = t q other ∙ s q other

pub same_some : {A : Type 0} (a b : A) → Some a ≡ Some b → a ≡ b
same_some a b e = ap (λ o. unwrap_or o a) e

-- one row is written, and the indexes of the other numbers stay
pub are_indexed : (rows later : Rows) (old new : Indexes) (x : ℕ) (row : PropertyRow)
    → AreRowIndexes rows old → IsPut rows later x row → IsIndexedIn new x row.items → KeepsOthers old new x → AreRowIndexes later new
are_indexed rows later old new x row all put here others n v there i is =
    elim (eq_by_cmp nat_cmp n x) as (λ b. eq_by_cmp nat_cmp n x ≡ b → IsRowIndex i.entries (orders v.items)) [
      | true ↦ λ t.
          let same : n ≡ x = one_number n x t in
          let v_is : row ≡ v = same_some row v (sym (put n ∙ ap (λ b. cond b (Some row) (row_at rows n)) t) ∙ there) in
          subst (λ (r : PropertyRow). IsRowIndex i.entries (orders r.items)) v_is (here i (ap (index_at new) (sym same) ∙ is))
      | false ↦ λ t.
          all n v (sym (put n ∙ ap (λ b. cond b (Some row) (row_at rows n)) t) ∙ there) i (sym (others n t) ∙ is)
    ] refl

-- the rows are as they were
pub still_indexed : (rows later : Rows) (indexes : Indexes) → later ≡ rows → AreRowIndexes rows indexes → AreRowIndexes later indexes
still_indexed rows later indexes is all = subst (λ es. AreRowIndexes es indexes) (sym is) all
