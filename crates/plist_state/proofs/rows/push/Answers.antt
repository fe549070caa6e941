use Rattle.std.proofs.Common.{sym, ap, ◌∙◌, refl, Some}
use Rattle.std.proofs.lemmas.Bool.{false≢true}
use Rattle.lisp_object.specs.Datum.{object_of}
use Rattle.plist_state.specs.Properties.{value_beside}
use Rattle.plist_state.specs.Lists.{same_number}
use Rattle.plist_state.specs.Views.{plist_of}
use Rattle.plist_state.specs.Undoing.{list_before}
use Rattle.plist_state.specs.PushedLists.{holds_pair, with_pushed_by}
use Rattle.plist_state.proofs.ListRows.{lent_mut, lent_shown, none_lent, put_lent, written, lists_made, list_now, written_same}
use Rattle.plist_state.proofs.Placing.{are_indexed}
use Rattle.plist_state.proofs.rows.push.Goals as goal

pub unreachable-requires : goal.unreachable-requires
unreachable-requires c =
    absurd (false≢true
    (ap (λ ps. holds_pair (value_beside same_number ps c.args.indicator)) (sym (none_lent c.args.rows.now.items c.args.number c.in_default.ensures.item)) ∙ c.requires.list))

pub write_first-requires-clause-list : goal.write_first-requires-clause-list
write_first-requires-clause-list c =
    ap (λ ps. holds_pair (value_beside same_number ps c.args.indicator)) (sym (lent_shown c.args.rows.now.items c.args.number c.in-Some.row c.in-Some.ensures.item))
    ∙ c.requires.list

pub returns-in-Ok-clause-ok : goal.returns-in-Ok-clause-ok
returns-in-Ok-clause-ok c =
    lists_made c.args.rows.now.items c.args.number c.in-Some.row c.write_first.new.row c.in-Some.ensures.item c.write_first.ensures.room (λ _. c.write_first.ensures.values)
    (λ ps. with_pushed_by same_number ps c.args.indicator (object_of c.args.first)) c.in-Ok.ensures.ok

pub returns-in-Ok-clause-back : goal.returns-in-Ok-clause-back
returns-in-Ok-clause-back c =
    ap (list_before c.in-Ok.change)
    (list_now c.args.rows.now.items c.args.number c.in-Some.row c.write_first.new.row c.in-Some.ensures.item c.write_first.ensures.room (λ _. c.write_first.ensures.values))
    ∙ c.in-Ok.ensures.back
    ∙ sym (lent_shown c.args.rows.now.items c.args.number c.in-Some.row c.in-Some.ensures.item)

pub returns-in-Ok-clause-wider : goal.returns-in-Ok-clause-wider
returns-in-Ok-clause-wider c =
    (written c.args.rows.now.items c.args.number c.in-Some.row c.write_first.new.row c.in-Some.ensures.item c.write_first.ensures.room (λ _. c.write_first.ensures.values)).wider

pub returns-in-Err-clause-wider : goal.returns-in-Err-clause-wider
returns-in-Err-clause-wider c =
    (written c.args.rows.now.items c.args.number c.in-Some.row c.write_first.new.row c.in-Some.ensures.item c.write_first.ensures.room (λ _. c.write_first.ensures.values)).wider

pub returns-in-Err-clause-err : goal.returns-in-Err-clause-err
returns-in-Err-clause-err c =
    written_same c.args.rows.now.items _ c.args.number (plist_of c.write_first.new.row)
    (written c.args.rows.now.items c.args.number c.in-Some.row c.write_first.new.row c.in-Some.ensures.item c.write_first.ensures.room (λ _. c.write_first.ensures.values))
    (c.in-Err.ensures.err ∙ sym (lent_shown c.args.rows.now.items c.args.number c.in-Some.row c.in-Some.ensures.item))

pub write_first-requires-clause-indexed : goal.write_first-requires-clause-indexed
write_first-requires-clause-indexed c = c.requires.indexed c.args.number c.in-Some.row.now (sym (lent_mut c.args.rows.now.items c.args.number (Some c.in-Some.row) c.in-Some.ensures.item))

pub returns-in-Ok-clause-indexed : goal.returns-in-Ok-clause-indexed
returns-in-Ok-clause-indexed c =
    are_indexed c.args.rows.now.items _ c.args.indexes.now.entries c.args.indexes.now.entries c.args.number c.write_first.new.row c.requires.indexed
    (put_lent c.args.rows.now.items c.args.number c.in-Some.row c.write_first.new.row c.in-Some.ensures.item)
    c.write_first.ensures.indexed (λ q other. refl)

pub returns-in-Err-clause-indexed : goal.returns-in-Err-clause-indexed
returns-in-Err-clause-indexed c =
    are_indexed c.args.rows.now.items _ c.args.indexes.now.entries c.args.indexes.now.entries c.args.number c.write_first.new.row c.requires.indexed
    (put_lent c.args.rows.now.items c.args.number c.in-Some.row c.write_first.new.row c.in-Some.ensures.item)
    c.write_first.ensures.indexed (λ q other. refl)
