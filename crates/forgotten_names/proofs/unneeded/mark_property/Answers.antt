use Rattle.std.proofs.Common.{◌∷◌, []}
use Rattle.package_table.specs.Numbers.{table_now}
use Rattle.package_table.specs.Symbols.{symbols}
use Rattle.package_table.proofs.Undoing.{on_ok}
use Rattle.plist_state.specs.Views.{property_of}
use Rattle.forgotten_names.proofs.Marking.{marked_both}
use Rattle.forgotten_names.proofs.unneeded.mark_property.Goals as goal

pub returns : goal.returns
returns c =
    let p = property_of c.args.property in
    on_ok c.mark_datum.result
    (marked_both (table_now c.args.packages.now) c.args.marks.now.items c.mark.new.marks.items c.mark_datum.new.marks.items (p.0 ∷ []) (symbols p.1) c.in_ok-mark.ensures)
    c.mark_datum.ensures
