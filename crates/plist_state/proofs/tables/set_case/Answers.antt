use Rattle.std.proofs.Common.{◌≡◌, Ok, refl, sym, ap, ◌∙◌}
use Rattle.readtable_core.specs.Tables.{Table}
use Rattle.plist_state.specs.declared.note.TableChange.TheVariants.{Letters}
use Rattle.plist_state.specs.declared.note.Note.TheVariants.{Changed}
use Rattle.plist_state.specs.Views.{readtables_of}
use Rattle.plist_state.specs.Undoing.{table_before}
use Rattle.plist_state.specs.Journal.{marks_of}
use Rattle.plist_state.proofs.ByName.{written_there, changed_there, change_noted, put_there, got_table}
use Rattle.plist_state.proofs.tables.set_case.Goals as goal

pub unreachable-requires : goal.unreachable-requires
unreachable-requires c = written_there c.args.tables.now.entries c.args.name.now c.in_default.ensures.value c.in_ok-check_writable.ensures

pub returns-clause-gives : goal.returns-clause-gives
returns-clause-gives c =
    changed_there c.args.tables.now.entries _ c.args.name.now c.in-Some.table.now c.set_case.new.self (λ (t : Table). Ok (record t { letters = c.args.letters }))
    c.in-Some.ensures.value c.in_ok-check_writable.ensures (c.get_mut.follows.holds c.set_case.new.self).0 (ap Ok (sym c.set_case.ensures))

pub returns-clause-marked : goal.returns-clause-marked
returns-clause-marked c = λ r.
    let t : Table = c.in-Some.table.now in
    let back : table_before (Letters c.case.result) c.set_case.new.self ≡ t = λ i. record { letters = c.case.ensures i; entries = (c.set_case.ensures i).entries } in
    let tables = c.args.tables.now.entries in
    change_noted (marks_of c.args.marks.now.items) _ (marks_of c.push_note.new.marks.items) c.in_ok-noted.ensures.same (Changed c.in_ok-noted.noted (Letters c.case.result)) c.push_note.ensures
    (readtables_of c.args.tables.now) _ c.args.name.now c.set_case.new.self (put_there tables _ c.args.name.now t c.set_case.new.self c.in-Some.ensures.value (c.get_mut.follows.holds c.set_case.new.self).0)
    c.in_ok-noted.noted c.in_ok-noted.ensures.name t (got_table c.args.name.now tables ∙ sym c.in-Some.ensures.value) (Letters c.case.result) tt refl back r
