-- The forms that set the properties of a world, as the objects whose text world_forms gives (`property_form`, `property_lines`), and
-- the state after them. One of them is `property_object` of text_laws.
use Rattle.std.specs.Prelude.{List, [], ◌∷◌, map, Option, Some, None, Ok, Err}
use Rattle.std.specs.List.{flat_map}
use Rattle.lisp_object.specs.Object.{Object}
use Rattle.package_table.specs.Table.{Name}
use Rattle.plist_state.specs.State.{WorldState}
use Rattle.plist_state.specs.Changes.{plist}
use Rattle.plist_state.specs.Readers.{symbols_with_properties}
use Rattle.form_eval.specs.Acceptance.{accept}
use Rattle.text_laws.specs.Objects.{property_object}

-- those of all properties, in the order of the symbols and then of their lists
abbrev pub property_objects : WorldState → List Object
property_objects s = flat_map (λ x. map (property_object x) (plist s x)) (symbols_with_properties s)

-- the state after these forms, each accepted in the state that the ones before it left; None if one is refused
abbrev pub after_each : List Name → WorldState → List Object → Option WorldState
after_each names s [] = Some s
after_each names s (x ∷ xs) = elim (accept names s x) [ Ok done ↦ after_each names done.state xs | Err number ↦ None ]
