use Rattle.plist_state.specs.Views.{rest_of}
use Rattle.plist_state.specs.Journal.{marks_of}
use Rattle.plist_state.proofs.Notes.{property_noted}
use Rattle.plist_state.proofs.stored.push.Goals as goal

pub returns-clause-marked : goal.returns-clause-marked
returns-clause-marked c =
    property_noted (marks_of c.args.marks.now.items) _ (marks_of c.push_note.new.marks.items) c.in_ok-reserve_note.ensures.same
    c.args.number c.in-Ok.change c.push_note.ensures c.in-Ok.ensures.former
    (rest_of c.args.stored.now) c.args.stored.now.properties.items c.push.new.rows.items _
    c.in-Ok.ensures.ok c.in-Ok.ensures.back
