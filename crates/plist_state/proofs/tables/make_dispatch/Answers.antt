use Rattle.std.proofs.Common.{Ok, sym, ap}
use Rattle.readtable_core.specs.Tables.{Table}
use Rattle.readtable_core.specs.Changes.{with_character_entry, dispatching_entry}
use Rattle.plist_state.specs.Views.{readtables_of}
use Rattle.plist_state.proofs.ByName.{written_there, changed_there, same_there, change_ok, tables_same, entry_noted}
use Rattle.plist_state.specs.Journal.{marks_of}
use Rattle.plist_state.proofs.tables.make_dispatch.Goals as goal

pub unreachable-requires : goal.unreachable-requires
unreachable-requires c = written_there c.args.tables.now.entries c.args.name.now c.in_default.ensures.value c.in_ok-check_writable.ensures

pub returns-clause-gives : goal.returns-clause-gives
returns-clause-gives c =
    changed_there c.args.tables.now.entries _ c.args.name.now c.in-Some.table.now c.make_dispatch.new.self (λ (t : Table). Ok (with_character_entry t c.args.c (dispatching_entry c.args.non_terminating)))
    c.in-Some.ensures.value c.in_ok-check_writable.ensures (c.get_mut.follows.holds c.make_dispatch.new.self).0 (ap Ok (sym c.in_default-make_dispatch.ensures))

pub returns-in-Err-clause-unchanged : goal.returns-in-Err-clause-unchanged
returns-in-Err-clause-unchanged c =
    same_there c.args.tables.now.entries _ c.args.name.now c.in-Some.table.now c.make_dispatch.new.self c.in-Some.ensures.value (c.get_mut.follows.holds c.make_dispatch.new.self).0 c.in-Err.ensures

pub returns-in-Err-clause-gives : goal.returns-in-Err-clause-gives
returns-in-Err-clause-gives c =
    change_ok (readtables_of c.args.tables.now) c.args.name.now (λ (t : Table). with_character_entry t c.args.c (dispatching_entry c.args.non_terminating)) c.in_ok-check_writable.ensures

pub returns-clause-marked : goal.returns-clause-marked
returns-clause-marked c =
    entry_noted (marks_of c.args.marks.now.items) _ (marks_of c.push_note.new.marks.items) c.in_ok-note.ensures.same c.in_ok-note.note c.push_note.ensures
    c.args.tables.now.entries _ c.args.name.now c.in-Some.table.now c.make_dispatch.new.self c.in-Some.ensures.value (c.get_mut.follows.holds c.make_dispatch.new.self).0
    c.args.c (dispatching_entry c.args.non_terminating) c.requires c.in_ok-note.ensures.note
    c.in_default-make_dispatch.ensures

pub returns-in-Err-clause-marked : goal.returns-in-Err-clause-marked
returns-in-Err-clause-marked c =
    tables_same (marks_of c.args.marks.now.items) _ (readtables_of c.args.tables.now) _ c.in_ok-note.ensures.same
    (same_there c.args.tables.now.entries _ c.args.name.now c.in-Some.table.now c.make_dispatch.new.self c.in-Some.ensures.value (c.get_mut.follows.holds c.make_dispatch.new.self).0 c.in-Err.ensures)
