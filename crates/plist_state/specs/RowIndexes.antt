-- The indexes of long rows of properties, by which an indicator is found without a search from the front.
use Rattle.std.specs.Prelude.{◌≡◌, ℕ, ◌<◌, false, List, map, length, slice_index_or, Option, Some}
use Rattle.std.specs.Ordering.{nat_cmp, eq_by_cmp}
use Rattle.std.specs.Map.{lookup}
use Rattle.std.specs.BTreeMap.{BTreeMap, is_at}
use Rattle.property_rows.specs.declared.property.NumberedProperty.{NumberedProperty}
use Rattle.property_rows.specs.Rows.{PropertyRow}
use Rattle.plist_state.specs.Views.{Rows, row_at}

-- indicators, each with the order of its property
abbrev pub Orders : Type 0
Orders = List (ℕ × ℕ)

-- the indicator of a property, and its order in the row
abbrev pub order_of : NumberedProperty → ℕ × ℕ
order_of p = (p.indicator, p.order)

-- the order of each property of a row, by its indicator
abbrev pub orders : List NumberedProperty → Orders
orders items = map order_of items

-- the indicator and the order of the property at a place
abbrev pub indexed_order : Orders → ℕ → ℕ × ℕ
indexed_order ks k = slice_index_or ks k (0, 0)

-- the order that an index has for an indicator
abbrev pub order_in : Orders → ℕ → Option ℕ
order_in x i = lookup (is_at (nat_cmp i)) x

-- the orders rise along the row
abbrev pub HasRisingOrders : Orders → Type 0
HasRisingOrders ks = (i j : ℕ) → i < j → j < length ks → (indexed_order ks i).1 < (indexed_order ks j).1

-- The index has the order of each property of the row, and the orders rise. It may have other indicators.
pub record IsRowIndex (x ks : Orders) : Type 0 where
  pub finds : (k : ℕ) → k < length ks → order_in x (indexed_order ks k).0 ≡ Some (indexed_order ks k).1
  pub rising : HasRisingOrders ks

-- the indexes of rows, by the numbers of their symbols
abbrev pub Index : Type 0
Index = BTreeMap ℕ ℕ

-- the indexes, by the numbers of their rows
abbrev pub Indexes : Type 0
Indexes = List (ℕ × Index)

-- the index of a row, if it has one
abbrev pub index_at : Indexes → ℕ → Option Index
index_at indexes n = lookup (is_at (nat_cmp n)) indexes

-- the index of a number, if there is one, is that of these properties
abbrev pub IsIndexedIn : Indexes → ℕ → List NumberedProperty → Type 0
IsIndexedIn indexes n items = (x : Index) → index_at indexes n ≡ Some x → IsRowIndex x.entries (orders items)

-- each index is that of the row of its number
abbrev pub AreRowIndexes : Rows → Indexes → Type 0
AreRowIndexes rows indexes = (n : ℕ) (row : PropertyRow) → row_at rows n ≡ Some row → IsIndexedIn indexes n row.items

-- the indexes of other numbers are as they were
abbrev pub KeepsOthers : Indexes → Indexes → ℕ → Type 0
KeepsOthers old new n = (q : ℕ) → eq_by_cmp nat_cmp q n ≡ false → index_at new q ≡ index_at old q
