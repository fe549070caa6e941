use Rattle.std.proofs.Common.{◌≤◌, length, subst}
use Rattle.plist_state.specs.Lists.{NumberedPlist, plist_of_number}
use Rattle.plist_state.specs.Views.{rest_of, lists_of, room_at}
use Rattle.plist_state.specs.Undoing.{list_before, rest_before}
use Rattle.plist_state.specs.Journal.{FitsRows}
use Rattle.plist_state.proofs.ListRows.{row-with_row}
use Rattle.plist_state.proofs.undo.undo.Goals as goal

pub take_back-requires-clause-room : goal.take_back-requires-clause-room
take_back-requires-clause-room c =
    let rows = c.args.stored.now.properties in
    let x = c.in-Property.number in
    subst (λ (ps : NumberedPlist). length ps ≤ room_at rows.items x) (row-with_row (lists_of rows) x (list_before c.in-Property.change (plist_of_number (lists_of rows) x)))
    (subst (λ note. FitsRows rows.items (rest_before note (rest_of c.args.stored.now))) c.in-Property.is c.requires.room x)
