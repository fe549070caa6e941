use Rattle.std.proofs.Common.{None, is_some, ◌≡◌, Ok, Err, sym, ap, ◌∙◌}
use Rattle.std.specs.Option.{option_map_or}
use Rattle.std.proofs.lemmas.Bool.{false≢true}
use Rattle.readtable_core.specs.Tables.{Table, entry_at}
use Rattle.readtable_core.specs.Changes.{with_character_entry, with_dispatch_function, dispatch_refusal}
use Rattle.plist_state.specs.Changes.{with_sub_function, readtable_error_of}
use Rattle.plist_state.proofs.ByName.{written_there, changed_there, entry_noted, got_table}
use Rattle.plist_state.specs.Journal.{marks_of}
use Rattle.plist_state.proofs.tables.set_dispatch.Goals as goal

pub unreachable-requires : goal.unreachable-requires
unreachable-requires c = written_there c.args.tables.now.entries c.args.name.now c.in_default.ensures.value c.in_ok-check_writable.ensures

pub returns-clause-gives : goal.returns-clause-gives
returns-clause-gives c =
    let t : Table = c.in-Some.table.now in
    changed_there c.args.tables.now.entries _ c.args.name.now t c.set_dispatch.new.self (λ (t : Table). with_sub_function t c.args.c c.args.sub c.args.function)
    c.in-Some.ensures.value c.in_ok-check_writable.ensures (c.get_mut.follows.holds c.set_dispatch.new.self).0
    (ap (λ o. option_map_or (λ r. Err (readtable_error_of r)) o (Ok (with_character_entry t c.args.c (with_dispatch_function (entry_at t c.args.c) c.args.sub c.args.function)))) c.in_default-set_dispatch.ensures.accepted
    ∙ ap Ok (sym c.in_default-set_dispatch.ensures.after))

pub unreachable-requires-in-Err : goal.unreachable-requires-in-Err
unreachable-requires-in-Err c =
    let t : Table = c.in-Some.table.now in
    let none : dispatch_refusal t c.args.c c.args.sub ≡ None = c.in_ok-check_dispatch.ensures t (got_table c.args.name.now c.args.tables.now.entries ∙ sym c.in-Some.ensures.value) in
    absurd (false≢true (ap is_some (sym none ∙ c.in-Err.ensures.refused)))

pub returns-clause-marked : goal.returns-clause-marked
returns-clause-marked c =
    entry_noted (marks_of c.args.marks.now.items) _ (marks_of c.push_note.new.marks.items) c.in_ok-note.ensures.same c.in_ok-note.note c.push_note.ensures
    c.args.tables.now.entries _ c.args.name.now c.in-Some.table.now c.set_dispatch.new.self c.in-Some.ensures.value (c.get_mut.follows.holds c.set_dispatch.new.self).0
    c.args.c (with_dispatch_function (entry_at c.in-Some.table.now c.args.c) c.args.sub c.args.function) c.requires.character c.in_ok-note.ensures.note
    c.in_default-set_dispatch.ensures.after
