use Rattle.std.proofs.Common.{◌≡◌, Some, refl, ◌∙◌}
use Rattle.std.specs.FinMap as finite
use Rattle.readtable_core.specs.Tables.{Table}
use Rattle.readtable_core.specs.Changes.{with_character_entry}
use Rattle.readtable_core.proofs.PutBack.{put_back}
use Rattle.plist_state.specs.declared.note.TableChange.TheVariants.{Character}
use Rattle.plist_state.specs.declared.note.Note.TheVariants.{Changed}
use Rattle.plist_state.specs.Views.{readtables_of}
use Rattle.plist_state.specs.Journal.{marks_of}
use Rattle.plist_state.proofs.ByName.{change_noted, some_of, writable_some}
use Rattle.plist_state.proofs.tables.set_syntax.Goals as goal

pub returns-clause-marked : goal.returns-clause-marked
returns-clause-marked c = λ r.
    let m = readtables_of c.args.tables.now in
    let there : (t : Table) × (finite.get m c.args.to.now ≡ Some t) = some_of (finite.get m c.args.to.now) (writable_some m c.args.to.now c.in_ok-check_writable.ensures) in
    let t : Table = there.0 in
    let w : Table = with_character_entry t c.args.c c.in_ok-entry.entry in
    change_noted (marks_of c.args.marks.now.items) _ (marks_of c.push_note.new.marks.items) c.in_ok-noted.ensures.same (Changed c.in_ok-noted.noted (Character c.args.c c.put_entry-before.result)) c.push_note.ensures
    m _ c.args.to.now w (c.put_entry-before.ensures.after t there.1)
    c.in_ok-noted.noted c.in_ok-noted.ensures.name t there.1 (Character c.args.c c.put_entry-before.result) c.requires.to refl
    ((λ i. with_character_entry w c.args.c (c.put_entry-before.ensures.before t there.1 i)) ∙ put_back t c.args.c c.in_ok-entry.entry) r
