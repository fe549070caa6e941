-- What contracts see of a row.
use Rattle.std.specs.Prelude.{ℕ, ◌+◌, List, length}
use Rattle.property_rows.specs.declared.property.NumberedProperty.{NumberedProperty}

-- its properties, and how many more there is memory for
pub record PropertyRow : Type 0 where
  pub items : List NumberedProperty
  pub spare : ℕ

-- how many properties there is memory for
abbrev pub room : PropertyRow → ℕ
room row = length row.items + row.spare
