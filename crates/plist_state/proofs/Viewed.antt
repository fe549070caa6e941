-- A property of a list that is given by borrow.
--     are_numbers      the indicators in a row
--     within_row      its index is one in the row
--     property_at      what it is, by the symbol of its indicator
--     number_at, value_proper      its indicator is the number of a symbol, and its value is proper
use Rattle.std.proofs.Common.{◌≡◌, ◌<◌, ℕ, true, Some, List, [], ◌∷◌, All, length, map, get_or, refl, sym, ap, subst, ◌∙◌, arith}
use Rattle.std.specs.Option.{option_map}
use Rattle.std.specs.List.{slice_get}
use Rattle.std.proofs.lemmas.List.{length-map}
use Rattle.std.proofs.lemmas.List.Elements.{All-nil, All-cons, All-head, All-tail}
use Rattle.std.proofs.lemmas.Option.{slice_get-map, slice_get_read}
use Rattle.lisp_object.specs.Object.{Object}
use Rattle.lisp_object.specs.Datum.{object_of, is_proper}
use Rattle.package_table.specs.Numbers.{Numbered, table_now}
use Rattle.property_rows.specs.declared.property.NumberedProperty.{NumberedProperty}
use Rattle.plist_state.specs.declared.property_list.PropertyList.TheInside.{Inside}
use Rattle.plist_state.specs.Properties.{Symbol, Plist}
use Rattle.plist_state.specs.Lists.{numbered_symbol, IsNumber}
use Rattle.plist_state.specs.Views.{numbered_property, items_in}
use Rattle.plist_state.specs.PropertyListViews.{plist_in, IsPropertyList}

pub are_numbers : (s : Numbered) (row : List NumberedProperty) → All (λ p. IsNumber s p.0) (map numbered_property row) → All (λ p. IsNumber s p.indicator) row
are_numbers s [] all = All-nil (λ (p : NumberedProperty). IsNumber s p.indicator)
are_numbers s (p ∷ ps) all =
    All-cons (λ (q : NumberedProperty). IsNumber s q.indicator) p ps
    (All-head (λ (q : ℕ × Object). IsNumber s q.0) (numbered_property p) (map numbered_property ps) all)
    (are_numbers s ps (All-tail (λ (q : ℕ × Object). IsNumber s q.0) (numbered_property p) (map numbered_property ps) all))

module _ (a : Inside) where
  abbrev by_number : ℕ × Object → Symbol × Object
  by_number p = (numbered_symbol (table_now a.packages.now) p.0, p.1)

  pub same_length : length (plist_in a) ≡ length (items_in a.row)
  same_length = length-map (map numbered_property (items_in a.row)) by_number ∙ length-map (items_in a.row) numbered_property

  pub within_row : (ps : Plist) → plist_in a ≡ ps → (i : ℕ) → i < length ps → i < length (items_in a.row)
  within_row ps seen i within =
      let same : length ps ≡ length (items_in a.row) = sym (ap length seen) ∙ same_length in
      omega (arith, same, within)

  module _ (i : ℕ) (within : i < length (items_in a.row)) (p : NumberedProperty) (is : p ≡ get_or (items_in a.row) i p) where
    pub property_at : (ps : Plist) → plist_in a ≡ ps → slice_get ps i ≡ Some (numbered_symbol (table_now a.packages.now) p.indicator, object_of p.value)
    property_at ps seen =
        ap (λ ps. slice_get ps i) (sym seen)
        ∙ slice_get-map by_number (map numbered_property (items_in a.row)) i
        ∙ ap (option_map by_number) (slice_get-map numbered_property (items_in a.row) i ∙ ap (option_map numbered_property) (slice_get_read (items_in a.row) (length (items_in a.row)) i p refl within is))

    module _ (kept : IsPropertyList a) where
      pub number_at : IsNumber (table_now a.packages.now) p.indicator
      number_at = subst (λ (q : NumberedProperty). IsNumber (table_now a.packages.now) q.indicator) (sym is) (kept.indicators i p within)

      pub value_proper : is_proper p.value ≡ true
      value_proper = subst (λ (q : NumberedProperty). is_proper q.value ≡ true) (sym is) (kept.values i p within)
