-- The sizes that are noted of lists that items were put before.
use Rattle.std.specs.Prelude.{◌≡◌, ◌*◌, ◌+◌, ◌<◌, ℕ, false, List, Option, Some}
use Rattle.std.specs.Ordering.{nat_cmp, eq_by_cmp}
use Rattle.std.specs.Map.{lookup}
use Rattle.std.specs.BTreeMap.{is_at}
use Rattle.plist_state.specs.Lists.{NumberedLists, value_in}
use Rattle.plist_state.specs.PushedLists.{pair_size}

-- sizes by their keys
abbrev pub Sizes : Type 0
Sizes = List (ℕ × ℕ)

-- the key of a symbol and an indicator, by their numbers
abbrev pub size_key : ℕ → ℕ → ℕ
size_key i j = i * 4294967296 + j

-- the size that is noted of a property
abbrev pub size_at : Sizes → ℕ → ℕ → Option ℕ
size_at sizes i j = lookup (is_at (nat_cmp (size_key i j))) sizes

-- each size that is noted is that of the list that is there
abbrev pub AreSizes : NumberedLists → Sizes → Type 0
AreSizes m sizes = (i j n : ℕ) → j < 4294967296 → size_at sizes i j ≡ Some n → pair_size (value_in m i j) ≡ Some n

-- each size that is noted, but that of one property, is that of the list that is there
abbrev pub AreOtherSizes : NumberedLists → ℕ → ℕ → Sizes → Type 0
AreOtherSizes m x y sizes =
    (i j n : ℕ) → j < 4294967296 → eq_by_cmp nat_cmp (size_key x y) (size_key i j) ≡ false → size_at sizes i j ≡ Some n
    → pair_size (value_in m i j) ≡ Some n
