use Rattle.plist_state.specs.Views.{rest_of}
use Rattle.plist_state.specs.Journal.{marks_of}
use Rattle.plist_state.proofs.Notes.{property_noted}
use Rattle.plist_state.proofs.stored.shorten.Goals as goal

pub returns-clause-marked : goal.returns-clause-marked
returns-clause-marked c =
    property_noted (marks_of c.args.marks.now.items) _ (marks_of c.push_note.new.marks.items) c.in_ok-reserve_note.ensures.same
    c.args.number c.pop-change.result c.push_note.ensures c.pop-change.ensures.former
    (rest_of c.args.stored.now) c.args.stored.now.properties.items c.pop-change.new.rows.items _
    c.pop-change.ensures.after c.pop-change.ensures.back
