use Rattle.std.proofs.Common.{Some, None, length, sym, ap, ◌∙◌}
use Rattle.std.proofs.lemmas.List.{length-map}
use Rattle.plist_state.specs.Views.{numbered_property}
use Rattle.plist_state.proofs.ListRows.{lent, row_shown, none_shown}
use Rattle.plist_state.proofs.rows.count.Goals as goal

pub returns-in-Some : goal.returns-in-Some
returns-in-Some c =
    c.len.ensures ∙ sym (length-map c.in-Some.row.now.items numbered_property)
    ∙ sym (ap length (row_shown c.args.rows.now.items c.args.number c.in-Some.row.now (lent c.args.rows.now.items c.deref.result.now c.args.number (Some c.in-Some.row) c.deref.ensures.value c.in-Some.ensures.lookup)))

pub returns-in-None : goal.returns-in-None
returns-in-None c = sym (ap length (none_shown c.args.rows.now.items c.args.number (lent c.args.rows.now.items c.deref.result.now c.args.number None c.deref.ensures.value c.in-None.ensures.lookup)))
