use Rattle.std.proofs.Common.{◌≡◌, sym, ap, ◌∙◌}
use Rattle.std.specs.FinMap as finite
use Rattle.readtable_core.specs.Tables.{Table, entry_at}
use Rattle.readtable_core.specs.Changes.{with_character_entry}
use Rattle.plist_state.specs.Views.{readtables_of}
use Rattle.plist_state.proofs.ByName.{no_table, got_table, put_there, same_some}
use Rattle.plist_state.proofs.tables.put_entry.Goals as goal

pub unreachable-requires : goal.unreachable-requires
unreachable-requires c = no_table c.args.name.now c.args.tables.now.entries c.in_default.ensures.value c.requires.there

pub returns-clause-after : goal.returns-clause-after
returns-clause-after c = λ t there.
    let tables = c.args.tables.now.entries in
    let same : c.in-Some.table.now ≡ t = same_some (c.in-Some.ensures.value ∙ sym (got_table c.args.name.now tables) ∙ there) in
    put_there tables _ c.args.name.now c.in-Some.table.now c.put_entry.new.self c.in-Some.ensures.value (c.get_mut.follows.holds c.put_entry.new.self).0
    ∙ ap (finite.insert (readtables_of c.args.tables.now) c.args.name.now) (c.put_entry.ensures.after ∙ ap (λ (x : Table). with_character_entry x c.args.c c.args.entry) same)

pub returns-clause-before : goal.returns-clause-before
returns-clause-before c = λ t there.
    c.put_entry.ensures.old
    ∙ ap (λ (x : Table). entry_at x c.args.c) (same_some (c.in-Some.ensures.value ∙ sym (got_table c.args.name.now c.args.tables.now.entries) ∙ there))
