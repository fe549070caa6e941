use Rattle.std.proofs.Common.{sym, rules}
use Rattle.plist_state.proofs.Notes.{noted, had_room}
use Rattle.plist_state.proofs.journal.push_note.Goals as goal

pub push_reserved-requires : goal.push_reserved-requires
push_reserved-requires c = had_room c.args.marks.now.items _ c.in-Some.newest.now c.in-Some.newest.now (sym c.args.marks.now.ok.0) (search rules) c.in-Some.ensures.value c.requires

pub returns-in-Some : goal.returns-in-Some
returns-in-Some c =
    noted c.args.marks.now.items _ c.in-Some.newest.now c.push_reserved.new.self (sym c.args.marks.now.ok.0) (search rules) c.in-Some.ensures.value c.args.note c.push_reserved.ensures.items
