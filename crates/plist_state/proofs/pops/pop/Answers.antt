use Rattle.std.proofs.Common.{◌<◌, ◌≤◌, [], unwrap_or, refl, sym, ap, subst, ◌∙◌, arith, Some}
use Rattle.std.specs.Vec.{vec_capacity}
use Rattle.lisp_object.specs.Object.{nil}
use Rattle.plist_state.specs.Properties.{value_beside}
use Rattle.plist_state.specs.Lists.{NumberedPlist, same_number}
use Rattle.plist_state.specs.PoppedLists.{with_popped_by}
use Rattle.plist_state.specs.Undoing.{list_before, element_count}
use Rattle.plist_state.proofs.ListRows.{lent_mut, lent_shown, none_lent, put_lent, written, lists_made, list_now}
use Rattle.plist_state.proofs.Placing.{are_indexed}
use Rattle.plist_state.proofs.pops.pop.Goals as goal

pub unreachable-requires : goal.unreachable-requires
unreachable-requires c =
    let few : 1 < element_count (unwrap_or (value_beside same_number [] c.args.indicator) nil) =
    subst (λ (ps : NumberedPlist). 1 < element_count (unwrap_or (value_beside same_number ps c.args.indicator) nil)) (none_lent c.args.rows.now.items c.args.number c.in_default.ensures.item) c.requires.more in
    absurd (omega (arith, few))

pub write_rest-requires-clause-more : goal.write_rest-requires-clause-more
write_rest-requires-clause-more c =
    subst (λ (ps : NumberedPlist). 1 < element_count (unwrap_or (value_beside same_number ps c.args.indicator) nil)) (lent_shown c.args.rows.now.items c.args.number c.in-Some.row c.in-Some.ensures.item) c.requires.more

pub write_rest-requires-clause-space : goal.write_rest-requires-clause-space
write_rest-requires-clause-space c =
    subst (λ (ps : NumberedPlist). element_count (unwrap_or (value_beside same_number ps c.args.indicator) nil) ≤ vec_capacity c.args.space) (lent_shown c.args.rows.now.items c.args.number c.in-Some.row c.in-Some.ensures.item) c.requires.space

pub write_rest-requires-clause-indexed : goal.write_rest-requires-clause-indexed
write_rest-requires-clause-indexed c = c.requires.indexed c.args.number c.in-Some.row.now (sym (lent_mut c.args.rows.now.items c.args.number (Some c.in-Some.row) c.in-Some.ensures.item))

pub returns-clause-after : goal.returns-clause-after
returns-clause-after c =
    lists_made c.args.rows.now.items c.args.number c.in-Some.row c.write_rest.new.row c.in-Some.ensures.item c.write_rest.ensures.room (λ _. c.write_rest.ensures.values)
    (λ ps. with_popped_by same_number ps c.args.indicator) c.write_rest.ensures.after

pub returns-clause-back : goal.returns-clause-back
returns-clause-back c =
    ap (list_before c.write_rest.result)
    (list_now c.args.rows.now.items c.args.number c.in-Some.row c.write_rest.new.row c.in-Some.ensures.item c.write_rest.ensures.room (λ _. c.write_rest.ensures.values))
    ∙ c.write_rest.ensures.back
    ∙ sym (lent_shown c.args.rows.now.items c.args.number c.in-Some.row c.in-Some.ensures.item)

pub returns-clause-wider : goal.returns-clause-wider
returns-clause-wider c =
    (written c.args.rows.now.items c.args.number c.in-Some.row c.write_rest.new.row c.in-Some.ensures.item c.write_rest.ensures.room (λ _. c.write_rest.ensures.values)).wider

pub returns-clause-indexed : goal.returns-clause-indexed
returns-clause-indexed c =
    are_indexed c.args.rows.now.items _ c.args.indexes.now.entries c.args.indexes.now.entries c.args.number c.write_rest.new.row c.requires.indexed
    (put_lent c.args.rows.now.items c.args.number c.in-Some.row c.write_rest.new.row c.in-Some.ensures.item)
    c.write_rest.ensures.indexed (λ q other. refl)
