use Rattle.std.proofs.Common.{◌≡◌, ℕ, false, is_some, List, rules, ap, sym, subst, ◌∙◌}
use Rattle.std.specs.Global.{Vec}
use Rattle.plist_state.specs.declared.note.Note.{Note}
use Rattle.plist_state.specs.Properties.{without_value_by}
use Rattle.plist_state.specs.Lists.{NumberedLists, same_number, plist_of_number}
use Rattle.plist_state.specs.Views.{NumberedRest, Rows, rest_of, lists_in}
use Rattle.plist_state.specs.Journal.{marks_of, ContinuesJournal}
use Rattle.plist_state.specs.OverwrittenValues.{OverwriteLeadsBackAs}
use Rattle.plist_state.proofs.Unnoted.{property_noted_as}
use Rattle.plist_state.proofs.Lists.{without-absent, none_shown_as}
use Rattle.plist_state.proofs.ListRows.{with_row_same, some_in, wider_both}
use Rattle.plist_state.proofs.stored.remove.Goals as goal

pub returns-then-is_none-clause-ok : goal.returns-then-is_none-clause-ok
returns-then-is_none-clause-ok c =
    let rows : Rows = c.args.stored.now.properties.items in
    let x : ℕ = c.args.number in
    let i : ℕ = c.args.indicator in
    let none : is_some c.value.result ≡ false = search rules in
    ap (λ (m : NumberedLists). record (rest_of c.args.stored.now) { properties = m })
    (sym (with_row_same (lists_in rows) x (without_value_by same_number (plist_of_number (lists_in rows) x) i) (some_in rows)
    (without-absent same_number (plist_of_number (lists_in rows) x) i (none_shown_as _ c.value.result _ c.value.ensures.value none))))

pub returns-clause-marked : goal.returns-clause-marked
returns-clause-marked c =
    let ms = marks_of c.args.marks.now.items in
    let ns = marks_of c.push_note.new.marks.items in
    let before = rest_of c.args.stored.now in
    let alike : OverwriteLeadsBackAs (marks_of c.reserve_note.new.marks.items) c.args.number c.count-count.result c.in-Some.change c.as_noted-change.result =
    subst (λ (vs : List (Vec Note)). OverwriteLeadsBackAs (marks_of vs) c.args.number c.count-count.result c.in-Some.change c.as_noted-change.result) c.as_slice-2.ensures.value c.as_noted-change.ensures.back in
    subst (λ (u : NumberedRest). ContinuesJournal ms before ns u) (sym c.tidy_unmarked.ensures.same)
    (property_noted_as ms (marks_of c.reserve_note.new.marks.items) ns c.in_ok-reserve_note.ensures.same
    c.args.number c.count-count.result c.in-Some.change c.as_noted-change.result alike c.push_note.ensures c.as_noted-change.ensures.proper
    before c.args.stored.now.properties.items c.remove.new.rows.items _ c.count-count.ensures
    c.in-Some.ensures.after c.in-Some.ensures.back)

pub returns-clause-ok : goal.returns-clause-ok
returns-clause-ok c =
    c.tidy_unmarked.ensures.same ∙ ap (λ (m : NumberedLists). record (rest_of c.args.stored.now) { properties = m }) c.in-Some.ensures.after

pub returns-clause-wider : goal.returns-clause-wider
returns-clause-wider c =
    wider_both c.args.stored.now.properties.items c.remove.new.rows.items _ c.in-Some.ensures.wider c.tidy_unmarked.ensures.wider
