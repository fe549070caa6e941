use Rattle.std.proofs.Common.{◌≡◌, sym, ap, subst, ◌∙◌}
use Rattle.plist_state.specs.declared.stored.Stored.{Stored}
use Rattle.plist_state.specs.Lists.{NumberedLists}
use Rattle.plist_state.specs.Views.{rest_of}
use Rattle.plist_state.specs.RowIndexes.{AreRowIndexes}
use Rattle.plist_state.specs.KeptRows.{IsWider}
use Rattle.plist_state.proofs.ListRows.{wider_both}
use Rattle.plist_state.proofs.stored.tidy_noted.Goals.{in-Some, in_default}
use Rattle.plist_state.proofs.stored.tidy_noted.Goals as goal

abbrev IsTidied : Stored → Stored → Type 0
IsTidied old new =
    (rest_of new ≡ rest_of old)
    × IsWider old.properties.items new.properties.items
    × AreRowIndexes new.properties.items new.indexes.entries

pub loop-note-preserved : goal.loop-note-preserved
loop-note-preserved c =
    let old : Stored = c.args.stored.now in
    let s : Stored = c.loop-note.stored in
    elim c.match-shortens.branch [
      | in-Some w ↦ subst (IsTidied old) (sym w.stored-is) (
        ap (λ (m : NumberedLists). record (rest_of s) { properties = m }) w.tidy.ensures.same ∙ c.loop-note.invariant.0,
        wider_both old.properties.items s.properties.items w.tidy.new.rows.items c.loop-note.invariant.1 w.tidy.ensures.wider,
        w.tidy.ensures.indexed s.indexes.entries c.loop-note.invariant.2,
      )
      | in_default w ↦ subst (IsTidied old) (sym w.stored-is) c.loop-note.invariant
    ]
