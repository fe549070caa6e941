use Rattle.std.proofs.Common.{◌≡◌, ◌≤◌, [], ◌∷◌, length, refl, sym, ap, ◌∙◌, arith, Some, None}
use Rattle.property_rows.specs.Rows.{room}
use Rattle.plist_state.specs.Lists.{NumberedPlist, plist_of_number}
use Rattle.plist_state.specs.Views.{plist_of, lists_in, room_at}
use Rattle.plist_state.specs.Undoing.{list_before}
use Rattle.plist_state.proofs.ListRows.{lent_mut, lent_shown, none_lent, put_lent, written, lists_made, room_shown, no_room, with_row_same, some_in}
use Rattle.plist_state.proofs.Placing.{are_indexed}
use Rattle.plist_state.proofs.rows.take_back.Goals as goal

pub revert-requires-clause-room : goal.revert-requires-clause-room
revert-requires-clause-room c =
    let rows = c.args.rows.now.items in
    let x = c.args.number in
    let list : length (list_before c.args.change (plist_of_number (lists_in rows) x)) ≡ length (list_before c.args.change (plist_of c.in-Some.row.now)) =
    ap (λ ps. length (list_before c.args.change ps)) (lent_shown rows x c.in-Some.row c.in-Some.ensures.item) in
    let same : room_at rows x ≡ room c.in-Some.row.now = room_shown rows x c.in-Some.row.now (lent_mut rows x (Some c.in-Some.row) c.in-Some.ensures.item) in
    let fits : length (list_before c.args.change (plist_of_number (lists_in rows) x)) ≤ room_at rows x = c.requires.room in
    omega (arith, list, same, fits)

pub returns-in-Some-clause-after : goal.returns-in-Some-clause-after
returns-in-Some-clause-after c =
    lists_made c.args.rows.now.items c.args.number c.in-Some.row c.revert.new.row c.in-Some.ensures.item c.revert.ensures.room c.revert.ensures.values
    (list_before c.args.change) c.revert.ensures.after

pub returns-in-Some-clause-wider : goal.returns-in-Some-clause-wider
returns-in-Some-clause-wider c =
    (written c.args.rows.now.items c.args.number c.in-Some.row c.revert.new.row c.in-Some.ensures.item c.revert.ensures.room c.revert.ensures.values).wider

pub returns-in_default-clause-after : goal.returns-in_default-clause-after
returns-in_default-clause-after c =
    let rows = c.args.rows.now.items in
    let x = c.args.number in
    let none : plist_of_number (lists_in rows) x ≡ [] = none_lent rows x c.in_default.ensures.item in
    let none_at : room_at rows x ≡ 0 = no_room rows x (lent_mut rows x None c.in_default.ensures.item) in
    let fits : length (list_before c.args.change (plist_of_number (lists_in rows) x)) ≤ room_at rows x = c.requires.room in
    let empty : list_before c.args.change (plist_of_number (lists_in rows) x) ≡ [] = no_items _ (omega (arith, none_at, fits)) in
    sym (with_row_same (lists_in rows) x _ (some_in rows) (empty ∙ sym none))
  where
    no_items : (ps : NumberedPlist) → length ps ≤ 0 → ps ≡ []
    no_items [] h = refl
    no_items (p ∷ ps) h = absurd (omega (arith, h))

pub revert-requires-clause-indexed : goal.revert-requires-clause-indexed
revert-requires-clause-indexed c = c.requires.indexed c.args.number c.in-Some.row.now (sym (lent_mut c.args.rows.now.items c.args.number (Some c.in-Some.row) c.in-Some.ensures.item))

pub returns-in-Some-clause-indexed : goal.returns-in-Some-clause-indexed
returns-in-Some-clause-indexed c =
    are_indexed c.args.rows.now.items _ c.args.indexes.now.entries c.revert.new.indexes.entries c.args.number c.revert.new.row c.requires.indexed
    (put_lent c.args.rows.now.items c.args.number c.in-Some.row c.revert.new.row c.in-Some.ensures.item)
    c.revert.ensures.indexed c.revert.ensures.others

pub returns-in_default-clause-indexed : goal.returns-in_default-clause-indexed
returns-in_default-clause-indexed c = c.requires.indexed
