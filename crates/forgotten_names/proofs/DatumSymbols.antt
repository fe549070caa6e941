-- The symbols of lists and vectors are those of their items, and of what ends them.
use Rattle.std.proofs.Common.{◌≡◌, List, [], ◌∷◌, ◌++◌, map, append_assoc, Option, Some, None, sym, ap, ◌∙◌, refl}
use Rattle.std.specs.List.{flat_map}
use Rattle.std.specs.Option.{option_map_or}
use Rattle.lisp_object.specs.Object.{Object, nil, pairs}
use Rattle.lisp_object.specs.declared.datum.Datum
use Rattle.lisp_object.specs.declared.datum.Datum.{Datum}
use Rattle.lisp_object.specs.Datum.{object_of}
use Rattle.lisp_object.proofs.Objects.{object_of-List, object_of-dotted, object_of-Vector}
use Rattle.package_table.specs.Symbols.{symbols}
use Rattle.plist_state.specs.Properties.{Symbol}

abbrev of_items : List Datum → List Symbol
of_items items = flat_map (λ d. symbols (object_of d)) items

symbols_pairs : (items : List Datum) (end' : Object) → of_items items ++ symbols end' ≡ symbols (pairs (map object_of items) end')
symbols_pairs [] end' = refl
symbols_pairs (d ∷ ds) end' = append_assoc (symbols (object_of d)) (of_items ds) (symbols end') ∙ ap (λ xs. symbols (object_of d) ++ xs) (symbols_pairs ds end')

pub symbols_list : (items : List Datum) (tail : Option Datum) → of_items items ++ symbols (option_map_or object_of tail nil) ≡ symbols (object_of (Datum.List items tail))
symbols_list items None = symbols_pairs items nil ∙ ap symbols (sym (object_of-List items))
symbols_list items (Some d) = symbols_pairs items (object_of d) ∙ ap symbols (sym (object_of-dotted items d))

pub symbols_vector : (items : List Datum) → of_items items ++ symbols nil ≡ symbols (object_of (Datum.Vector items))
symbols_vector items = symbols_pairs items nil ∙ ap symbols (sym (object_of-Vector items))
