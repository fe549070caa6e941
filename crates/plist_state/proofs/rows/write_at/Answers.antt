use Rattle.std.proofs.Common.{map, sym, ap, subst, ◌∙◌, Some, None}
use Rattle.std.specs.Option.{IsSome}
use Rattle.std.proofs.lemmas.Bool.{false≢true}
use Rattle.lisp_object.specs.Datum.{object_of}
use Rattle.plist_state.specs.Properties.{with_value_by}
use Rattle.plist_state.specs.Lists.{same_number}
use Rattle.plist_state.specs.Views.{numbered_property, plist_of}
use Rattle.plist_state.specs.Undoing.{list_before}
use Rattle.plist_state.proofs.ListRows.{lent_mut, lent_shown, put_lent, written, lists_made, list_now, written_same, proper_shown}
use Rattle.plist_state.proofs.Placing.{are_indexed}
use Rattle.plist_state.proofs.rows.write_at.Goals as goal

pub unreachable-requires : goal.unreachable-requires
unreachable-requires c =
    absurd (false≢true (subst (λ o. IsSome o) (sym (lent_mut c.args.rows.now.items c.args.number None c.in_default.ensures.item)) c.requires.row))

pub returns-in-Ok-clause-ok : goal.returns-in-Ok-clause-ok
returns-in-Ok-clause-ok c =
    lists_made c.args.rows.now.items c.args.number c.in-Some.row c.write.new.row c.in-Some.ensures.item c.write.ensures.room c.write.ensures.values
    (λ ps. with_value_by same_number ps c.args.indicator (object_of c.args.value)) c.in-Ok.ensures.ok

pub returns-in-Ok-clause-back : goal.returns-in-Ok-clause-back
returns-in-Ok-clause-back c =
    ap (list_before c.in-Ok.change)
    (list_now c.args.rows.now.items c.args.number c.in-Some.row c.write.new.row c.in-Some.ensures.item c.write.ensures.room c.write.ensures.values)
    ∙ c.in-Ok.ensures.back
    ∙ sym (lent_shown c.args.rows.now.items c.args.number c.in-Some.row c.in-Some.ensures.item)

pub returns-in-Ok-clause-former : goal.returns-in-Ok-clause-former
returns-in-Ok-clause-former c =
    c.in-Ok.ensures.former (proper_shown c.args.rows.now.items c.args.number c.in-Some.row.now (lent_mut c.args.rows.now.items c.args.number (Some c.in-Some.row) c.in-Some.ensures.item) c.requires.values)

pub returns-in-Ok-clause-wider : goal.returns-in-Ok-clause-wider
returns-in-Ok-clause-wider c =
    (written c.args.rows.now.items c.args.number c.in-Some.row c.write.new.row c.in-Some.ensures.item c.write.ensures.room c.write.ensures.values).wider

pub returns-in-Err-clause-wider : goal.returns-in-Err-clause-wider
returns-in-Err-clause-wider c =
    (written c.args.rows.now.items c.args.number c.in-Some.row c.write.new.row c.in-Some.ensures.item c.write.ensures.room c.write.ensures.values).wider

pub returns-in-Err-clause-err : goal.returns-in-Err-clause-err
returns-in-Err-clause-err c =
    written_same c.args.rows.now.items _ c.args.number (plist_of c.write.new.row)
    (written c.args.rows.now.items c.args.number c.in-Some.row c.write.new.row c.in-Some.ensures.item c.write.ensures.room c.write.ensures.values)
    (ap (λ xs. map numbered_property xs) c.in-Err.ensures.err ∙ sym (lent_shown c.args.rows.now.items c.args.number c.in-Some.row c.in-Some.ensures.item))

pub write-requires-clause-indexed : goal.write-requires-clause-indexed
write-requires-clause-indexed c = c.requires.indexed c.args.number c.in-Some.row.now (sym (lent_mut c.args.rows.now.items c.args.number (Some c.in-Some.row) c.in-Some.ensures.item))

pub returns-in-Ok-clause-indexed : goal.returns-in-Ok-clause-indexed
returns-in-Ok-clause-indexed c =
    are_indexed c.args.rows.now.items _ c.args.indexes.now.entries c.write.new.indexes.entries c.args.number c.write.new.row c.requires.indexed
    (put_lent c.args.rows.now.items c.args.number c.in-Some.row c.write.new.row c.in-Some.ensures.item)
    c.write.ensures.indexed c.write.ensures.others

pub returns-in-Err-clause-indexed : goal.returns-in-Err-clause-indexed
returns-in-Err-clause-indexed c =
    are_indexed c.args.rows.now.items _ c.args.indexes.now.entries c.write.new.indexes.entries c.args.number c.write.new.row c.requires.indexed
    (put_lent c.args.rows.now.items c.args.number c.in-Some.row c.write.new.row c.in-Some.ensures.item)
    c.write.ensures.indexed c.write.ensures.others
