use Rattle.std.proofs.Common.{sym, ap, subst, ◌∙◌}
use Rattle.std.specs.List.{flat_map}
use Rattle.std.specs.Option.{option_map_or}
use Rattle.lisp_object.specs.Object.{nil}
use Rattle.lisp_object.specs.Datum.{object_of}
use Rattle.package_table.specs.Numbers.{table_now}
use Rattle.package_table.specs.Symbols.{symbols}
use Rattle.forgotten_names.specs.Marks.{AddsMarks}
use Rattle.forgotten_names.proofs.DatumSymbols.{symbols_list, symbols_vector}
use Rattle.package_table.proofs.Undoing.{on_ok}
use Rattle.forgotten_names.proofs.Marking.{marked_both}
use Rattle.forgotten_names.proofs.marks.+marking.Goals as goal

pub mark_datum-returns-in_ok-mark_items-in-List : goal.mark_datum-returns-in_ok-mark_items-in-List
mark_datum-returns-in_ok-mark_items-in-List t c =
    let s = table_now c.args.packages.now in
    let before = c.args.marks.now.items in
    let between = c.mark_items.new.marks.items in
    let after = c.mark_end.new.marks.items in
    on_ok c.mark_end.result
    (λ later.
    subst (AddsMarks s before after) (symbols_list c.in-List.items c.in-List.tail ∙ ap (λ d. symbols (object_of d)) (sym c.in-List.is))
    (marked_both s before between after (flat_map (λ d. symbols (object_of d)) c.in-List.items) (symbols (option_map_or object_of c.in-List.tail nil)) c.in_ok-mark_items-in-List.ensures later))
    c.mark_end.ensures

pub mark_datum-returns-in_ok-mark_items-in-Vector : goal.mark_datum-returns-in_ok-mark_items-in-Vector
mark_datum-returns-in_ok-mark_items-in-Vector t c =
    let s = table_now c.args.packages.now in
    let before = c.args.marks.now.items in
    let between = c.mark_items-in-Vector.new.marks.items in
    let after = c.mark_nil.new.marks.items in
    on_ok c.mark_nil.result
    (λ later.
    subst (AddsMarks s before after) (symbols_vector c.in-Vector.items ∙ ap (λ d. symbols (object_of d)) (sym c.in-Vector.is))
    (marked_both s before between after (flat_map (λ d. symbols (object_of d)) c.in-Vector.items) (symbols nil) c.in_ok-mark_items-in-Vector.ensures later))
    c.mark_nil.ensures
