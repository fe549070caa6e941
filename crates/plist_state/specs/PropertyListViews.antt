-- What contracts see of a property list that is given by borrow, and what holds of it.
use Rattle.std.specs.Prelude.{◌≡◌, true, All, map}
use Rattle.lisp_object.specs.Datum.{is_proper}
use Rattle.package_table.specs.Numbers.{table_now}
use Rattle.plist_state.specs.declared.property_list.PropertyList.TheInside.{Inside}
use Rattle.plist_state.specs.Properties.{Plist}
use Rattle.plist_state.specs.Lists.{IsNumber, named_plist}
use Rattle.plist_state.specs.Views.{numbered_property, items_in}

-- the properties by the symbols of their indicators
abbrev pub plist_in : Inside → Plist
plist_in a = named_plist (table_now a.packages.now) (map numbered_property (items_in a.row))

-- each indicator is the number of a symbol, and each value is proper
pub record IsPropertyList (a : Inside) : Type 0 where
  pub indicators : All (λ p. IsNumber (table_now a.packages.now) p.indicator) (items_in a.row)
  pub values : All (λ p. is_proper p.value ≡ true) (items_in a.row)
