use Rattle.std.proofs.Common.{ap, sym, subst, ◌∙◌}
use Rattle.plist_state.specs.Views.{NumberedRest, Rows, rest_of}
use Rattle.plist_state.specs.Undoing.{rest_before, all_undone}
use Rattle.plist_state.specs.Journal.{CanBeUndone, FitsRows, LeadsBack}
use Rattle.plist_state.proofs.ListRows.{wider_both}
use Rattle.plist_state.proofs.Notes.{all_push, leads_pop, leads_wider}
use Rattle.plist_state.proofs.undo.undo_all.Goals as goal

pub undo-requires-clause-note : goal.undo-requires-clause-note
undo-requires-clause-note c =
    let r : NumberedRest = rest_of c.loop-note.stored in
    let rows : Rows = c.loop-note.stored.properties.items in
    (leads_pop c.pop.new.self.items c.in-Some.note r rows (subst (λ ns. LeadsBack ns r rows) c.in-Some.ensures.items c.loop-note.invariant.1)).0

pub undo-requires-clause-room : goal.undo-requires-clause-room
undo-requires-clause-room c =
    let r : NumberedRest = rest_of c.loop-note.stored in
    let rows : Rows = c.loop-note.stored.properties.items in
    (leads_pop c.pop.new.self.items c.in-Some.note r rows (subst (λ ns. LeadsBack ns r rows) c.in-Some.ensures.items c.loop-note.invariant.1)).1

pub loop-note-preserved : goal.loop-note-preserved
loop-note-preserved c =
    let r : NumberedRest = rest_of c.loop-note.stored in
    let rows : Rows = c.loop-note.stored.properties.items in
    let left = c.pop.new.self.items in
    let n = c.in-Some.note in
    let leads : CanBeUndone n × FitsRows rows (rest_before n r) × LeadsBack left (rest_before n r) rows = leads_pop left n r rows (subst (λ ns. LeadsBack ns r rows) c.in-Some.ensures.items c.loop-note.invariant.1) in (
      ap (all_undone left) c.undo.ensures.after ∙ sym (all_push left n r) ∙ ap (λ ns. all_undone ns r) (sym c.in-Some.ensures.items) ∙ c.loop-note.invariant.0,
      leads_wider left (rest_of c.undo.new.stored) rows c.undo.new.stored.properties.items c.undo.ensures.wider (subst (λ s. LeadsBack left s rows) (sym c.undo.ensures.after) leads.2),
      wider_both _ rows c.undo.new.stored.properties.items c.loop-note.invariant.2 c.undo.ensures.wider,
      c.undo.ensures.indexed,
    )
