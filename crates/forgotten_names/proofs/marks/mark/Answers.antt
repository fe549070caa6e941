use Rattle.std.proofs.Common.{sym, ◌∙◌}
use Rattle.package_table.specs.Numbers.{table_now}
use Rattle.package_table.specs.Table.{symbol_count}
use Rattle.package_table.proofs.Undoing.{on_ok}
use Rattle.forgotten_names.proofs.Marking.{marked_absent, marked_one}
use Rattle.forgotten_names.proofs.marks.mark.Goals as goal

pub returns-in-Some : goal.returns-in-Some
returns-in-Some c =
    on_ok c.set_mark.result
    (marked_one (table_now c.args.packages.now) (symbol_count c.args.packages.now.0) c.numbering.ensures (c.args.home.now, c.args.name.now) c.in-Some.number c.args.marks.now.items c.set_mark.new.marks.items (sym c.number_of.ensures ∙ c.in-Some.is))
    c.set_mark.ensures

pub returns-in-None : goal.returns-in-None
returns-in-None c =
    marked_absent (table_now c.args.packages.now) (symbol_count c.args.packages.now.0) c.numbering.ensures (c.args.home.now, c.args.name.now) c.args.marks.now.items (sym c.number_of.ensures ∙ c.in-None.is)
