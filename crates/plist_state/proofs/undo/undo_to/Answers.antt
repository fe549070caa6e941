use Rattle.std.proofs.Common.{◌≡◌, ◌∷◌, [], ◌+◌, List, length, refl, ap, sym, ◌∙◌, arith}
use Rattle.std.proofs.lemmas.List.{length-append}
use Rattle.std.specs.Global.{Vec}
use Rattle.plist_state.specs.declared.note.Note.{Note}
use Rattle.plist_state.specs.Views.{NumberedRest, Rows, rest_of}
use Rattle.plist_state.specs.Undoing.{all_undone}
use Rattle.plist_state.specs.Journal.{marks_of}
use Rattle.plist_state.proofs.ListRows.{wider_both}
use Rattle.plist_state.proofs.Notes.{popped, leads, gone_past, gone_to, journal_wider}
use Rattle.plist_state.proofs.undo.undo_to.Goals as goal

pub undo_all-requires-clause-leads : goal.undo_all-requires-clause-leads
undo_all-requires-clause-leads c =
    let t : NumberedRest = rest_of c.loop-newest.stored in
    (leads c.pop.new.self.items c.in-Some.newest c.loop-newest.marks.items c.in-Some.ensures.items t (all_undone c.in-Some.newest.items t) refl c.loop-newest.stored.properties.items c.loop-newest.invariant.3).0

pub returns-then-len-mark-clause-past : goal.returns-then-len-mark-clause-past
returns-then-len-mark-clause-past c =
    gone_past c.pop.new.self.items c.in-Some.newest c.loop-newest.marks.items c.in-Some.ensures.items (rest_of c.loop-newest.stored) (rest_of c.undo_all.new.stored) c.undo_all.ensures.after
    _ c.loop-newest.invariant.0 c.loop-newest.invariant.1 c.args.mark (sym c.pop.new.self.ok.0 ∙ sym c.len.ensures ∙ c.if-len-mark.true)

pub returns-then-len-mark-clause-now : goal.returns-then-len-mark-clause-now
returns-then-len-mark-clause-now c =
    gone_to c.pop.new.self.items c.in-Some.newest c.loop-newest.marks.items c.in-Some.ensures.items (rest_of c.loop-newest.stored) (rest_of c.undo_all.new.stored) c.undo_all.ensures.after
    _ c.loop-newest.invariant.0 c.loop-newest.invariant.1 c.args.mark (sym c.pop.new.self.ok.0 ∙ sym c.len.ensures ∙ c.if-len-mark.true)

pub returns-then-len-mark-clause-journal : goal.returns-then-len-mark-clause-journal
returns-then-len-mark-clause-journal c =
    let left : List (Vec Note) = c.pop.new.self.items in
    let u : NumberedRest = rest_of c.undo_all.new.stored in
    let rows : Rows = c.loop-newest.stored.properties.items in
    journal_wider (marks_of left) u rows c.undo_all.new.stored.properties.items c.undo_all.ensures.wider
    (leads left c.in-Some.newest c.loop-newest.marks.items c.in-Some.ensures.items (rest_of c.loop-newest.stored) u c.undo_all.ensures.after rows c.loop-newest.invariant.3).1

pub loop-newest-preserved : goal.loop-newest-preserved
loop-newest-preserved c =
    let left : List (Vec Note) = c.pop.new.self.items in
    let m : Vec Note = c.in-Some.newest in
    let u : NumberedRest = rest_of c.undo_all.new.stored in
    let t : NumberedRest = rest_of c.loop-newest.stored in
    let rows : Rows = c.loop-newest.stored.properties.items in
    let later : Rows = c.undo_all.new.stored.properties.items in
    let fewer : length c.loop-newest.marks.items ≡ length left + 1 = ap length c.in-Some.ensures.items ∙ length-append left (m ∷ []) in
    let is_length : length left ≡ c.len.result = sym c.pop.new.self.ok.0 ∙ sym c.len.ensures in (
      u ∷ c.loop-newest.invariant.0,
      popped left m c.loop-newest.marks.items c.in-Some.ensures.items t u c.undo_all.ensures.after _ c.loop-newest.invariant.0 c.loop-newest.invariant.1,
      omega (arith, fewer, is_length, c.if-len-mark.false, c.loop-newest.invariant.2),
      journal_wider (marks_of left) u rows later c.undo_all.ensures.wider (leads left m c.loop-newest.marks.items c.in-Some.ensures.items t u c.undo_all.ensures.after rows c.loop-newest.invariant.3).1,
      wider_both _ rows later c.loop-newest.invariant.4 c.undo_all.ensures.wider,
      c.undo_all.ensures.indexed,
    )
