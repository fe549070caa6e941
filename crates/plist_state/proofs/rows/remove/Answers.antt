use Rattle.std.proofs.Common.{◌≡◌, [], is_some, sym, ap, subst, ◌∙◌, refl, Some}
use Rattle.std.specs.Prelude.{IfSome}
use Rattle.plist_state.specs.Properties.{value_beside, without_value_by}
use Rattle.plist_state.specs.Lists.{NumberedPlist, same_number, plist_of_number}
use Rattle.plist_state.specs.Views.{lists_in}
use Rattle.plist_state.specs.Undoing.{list_before}
use Rattle.plist_state.proofs.ListRows.{lent_mut, lent_shown, none_lent, put_lent, written, lists_made, list_now, proper_shown, with_row_same, some_in}
use Rattle.plist_state.proofs.Placing.{are_indexed}
use Rattle.plist_state.proofs.rows.remove.Goals as goal

pub returns-in-Some-clause-after : goal.returns-in-Some-clause-after
returns-in-Some-clause-after c =
    lists_made c.args.rows.now.items c.args.number c.in-Some.row c.cut.new.row c.in-Some.ensures.item c.cut.ensures.room c.cut.ensures.values
    (λ ps. without_value_by same_number ps c.args.indicator) c.cut.ensures.after

pub returns-in-Some-clause-had : goal.returns-in-Some-clause-had
returns-in-Some-clause-had c =
    c.cut.ensures.had
    ∙ ap (λ ps. is_some (value_beside same_number ps c.args.indicator)) (sym (lent_shown c.args.rows.now.items c.args.number c.in-Some.row c.in-Some.ensures.item))

pub returns-in-Some-clause-back : goal.returns-in-Some-clause-back
returns-in-Some-clause-back c =
    let new = list_now c.args.rows.now.items c.args.number c.in-Some.row c.cut.new.row c.in-Some.ensures.item c.cut.ensures.room c.cut.ensures.values in
    let old = lent_shown c.args.rows.now.items c.args.number c.in-Some.row c.in-Some.ensures.item in
    subst (λ (p : NumberedPlist × NumberedPlist). IfSome c.cut.result (λ change. list_before change p.0 ≡ p.1)) (λ i. (sym new i, sym old i)) c.cut.ensures.back

pub returns-in-Some-clause-former : goal.returns-in-Some-clause-former
returns-in-Some-clause-former c =
    c.cut.ensures.former (proper_shown c.args.rows.now.items c.args.number c.in-Some.row.now (lent_mut c.args.rows.now.items c.args.number (Some c.in-Some.row) c.in-Some.ensures.item) c.requires.values)

pub returns-in-Some-clause-wider : goal.returns-in-Some-clause-wider
returns-in-Some-clause-wider c =
    (written c.args.rows.now.items c.args.number c.in-Some.row c.cut.new.row c.in-Some.ensures.item c.cut.ensures.room c.cut.ensures.values).wider

pub returns-in-None-clause-after : goal.returns-in-None-clause-after
returns-in-None-clause-after c =
    let rows = c.args.rows.now.items in
    let x = c.args.number in
    let none : plist_of_number (lists_in rows) x ≡ [] = none_lent rows x c.in-None.ensures.item in
    sym (with_row_same (lists_in rows) x _ (some_in rows) (ap (λ ps. without_value_by same_number ps c.args.indicator) none ∙ sym none))

pub returns-in-None-clause-had : goal.returns-in-None-clause-had
returns-in-None-clause-had c =
    sym (ap (λ ps. is_some (value_beside same_number ps c.args.indicator)) (none_lent c.args.rows.now.items c.args.number c.in-None.ensures.item))

pub cut-requires : goal.cut-requires
cut-requires c = c.requires.indexed c.args.number c.in-Some.row.now (sym (lent_mut c.args.rows.now.items c.args.number (Some c.in-Some.row) c.in-Some.ensures.item))

pub returns-in-Some-clause-indexed : goal.returns-in-Some-clause-indexed
returns-in-Some-clause-indexed c =
    are_indexed c.args.rows.now.items _ c.args.indexes.now.entries c.args.indexes.now.entries c.args.number c.cut.new.row c.requires.indexed
    (put_lent c.args.rows.now.items c.args.number c.in-Some.row c.cut.new.row c.in-Some.ensures.item)
    c.cut.ensures.indexed (λ q other. refl)

pub returns-in-None-clause-indexed : goal.returns-in-None-clause-indexed
returns-in-None-clause-indexed c = c.requires.indexed
