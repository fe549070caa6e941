use Rattle.std.proofs.Common.{sym, arith, rules}
use Rattle.plist_state.proofs.Notes.{on_ok, same_marks, room_last}
use Rattle.plist_state.proofs.journal.reserve_note.Goals as goal

pub returns-in-Some-clause-same : goal.returns-in-Some-clause-same
returns-in-Some-clause-same c =
    same_marks c.args.marks.now.items _ c.in-Some.newest.now c.reserve.new.self (sym c.args.marks.now.ok.0) (search rules) c.in-Some.ensures.value c.reserve.ensures.items

pub returns-in-Some-clause-room : goal.returns-in-Some-clause-room
returns-in-Some-clause-room c =
    on_ok c.reserve.result (λ room. room_last c.args.marks.now.items _ c.in-Some.newest.now c.reserve.new.self (sym c.args.marks.now.ok.0) (search rules) c.in-Some.ensures.value (omega (arith, room))) c.reserve.ensures.ok
