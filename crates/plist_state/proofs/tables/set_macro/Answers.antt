use Rattle.std.proofs.Common.{Ok, sym, ap}
use Rattle.readtable_core.specs.Tables.{Table}
use Rattle.readtable_core.specs.Changes.{with_character_entry, macro_entry}
use Rattle.plist_state.proofs.ByName.{written_there, changed_there, entry_noted}
use Rattle.plist_state.specs.Journal.{marks_of}
use Rattle.plist_state.proofs.tables.set_macro.Goals as goal

pub unreachable-requires : goal.unreachable-requires
unreachable-requires c = written_there c.args.tables.now.entries c.args.name.now c.in_default.ensures.value c.in_ok-check_writable.ensures

pub returns-clause-gives : goal.returns-clause-gives
returns-clause-gives c =
    changed_there c.args.tables.now.entries _ c.args.name.now c.in-Some.table.now c.set_macro.new.self (λ (t : Table). Ok (with_character_entry t c.args.c (macro_entry c.args.function c.args.non_terminating)))
    c.in-Some.ensures.value c.in_ok-check_writable.ensures (c.get_mut.follows.holds c.set_macro.new.self).0 (ap Ok (sym c.set_macro.ensures))

pub returns-clause-marked : goal.returns-clause-marked
returns-clause-marked c =
    entry_noted (marks_of c.args.marks.now.items) _ (marks_of c.push_note.new.marks.items) c.in_ok-note.ensures.same c.in_ok-note.note c.push_note.ensures
    c.args.tables.now.entries _ c.args.name.now c.in-Some.table.now c.set_macro.new.self c.in-Some.ensures.value (c.get_mut.follows.holds c.set_macro.new.self).0
    c.args.c (macro_entry c.args.function c.args.non_terminating) c.requires.character c.in_ok-note.ensures.note
    c.set_macro.ensures
