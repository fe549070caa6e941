use Rattle.std.proofs.Common.{List, subst}
use Rattle.std.specs.Global.{Vec}
use Rattle.plist_state.specs.declared.note.Note.{Note}
use Rattle.plist_state.specs.Views.{rest_of}
use Rattle.plist_state.specs.Journal.{marks_of, ContinuesJournal}
use Rattle.plist_state.proofs.Notes.{property_noted}
use Rattle.plist_state.proofs.Unnoted.{property_unnoted}
use Rattle.plist_state.proofs.stored.put.Goals as goal

pub returns-then-needs_no_note-clause-marked : goal.returns-then-needs_no_note-clause-marked
returns-then-needs_no_note-clause-marked c =
    property_unnoted (marks_of c.args.marks.now.items) (marks_of c.reserve_note.new.marks.items) c.in_ok-reserve_note.ensures.same
    c.args.number c.in-Ok.change (rest_of c.args.stored.now) c.args.stored.now.properties.items c.put.new.rows.items _
    (λ s u same undoes. subst (λ (vs : List (Vec Note)). ContinuesJournal (marks_of vs) s (marks_of vs) u) c.as_slice.ensures.value (c.needs_no_note.ensures c.if-needs_no_note.true s u same undoes))
    c.in-Ok.ensures.ok c.in-Ok.ensures.back

pub returns-clause-marked : goal.returns-clause-marked
returns-clause-marked c =
    property_noted (marks_of c.args.marks.now.items) _ (marks_of c.push_note.new.marks.items) c.in_ok-reserve_note.ensures.same
    c.args.number c.in-Ok.change c.push_note.ensures c.in-Ok.ensures.former
    (rest_of c.args.stored.now) c.args.stored.now.properties.items c.put.new.rows.items _
    c.in-Ok.ensures.ok c.in-Ok.ensures.back
