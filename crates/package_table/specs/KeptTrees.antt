-- Trees that are kept by names, as finite maps.
use Rattle.std.specs.Prelude.{ℕ, List, map}
use Rattle.std.specs.Global.{Vec}
use Rattle.std.specs.FinMap as finite
use Rattle.package_table.specs.Table.{name_cmp}

-- what a tree keeps, as a map of the logic
abbrev pub as_map : {X V : Type 0} → (X → V) → List (Vec ℕ × X) → finite.FinMap name_cmp V
as_map g es = finite.from_entries (map (λ e. (e.0.items, g e.1)) es)
