use Rattle.plist_state.specs.Views.{readtables_of}
use Rattle.std.proofs.Common.{◌≡◌, true, List, IsTrue, is_some, sym, ap, subst, ◌∙◌}
use Rattle.std.specs.Global.{Vec}
use Rattle.std.specs.FinMap as finite
use Rattle.plist_state.specs.declared.note.Note.{Note}
use Rattle.plist_state.specs.Journal.{marks_of, ContinuesTables}
use Rattle.plist_state.proofs.ByName.{copy_noted}
use Rattle.plist_state.proofs.Restored.{copied_over}
use Rattle.plist_state.proofs.copies.copy.Goals as goal

pub returns-clause-marked : goal.returns-clause-marked
returns-clause-marked c =
    let m = readtables_of c.args.tables.now in
    copy_noted (marks_of c.args.marks.now.items) _ (marks_of c.push_note.new.marks.items) c.in_ok-noted.ensures.same c.was_table.result c.push_note.ensures
    m _ c.args.to.now c.in_ok-copied-in-Some.copied (c.in_ok-before.ensures.ok ∙ ap (λ n. finite.insert m n c.in_ok-copied-in-Some.copied) c.in_ok-to.ensures.items)
    c.in_ok-noted.noted c.in_ok-noted.ensures.name c.in_ok-before.before (c.in_ok-before.ensures.before ∙ ap (finite.get m) c.in_ok-to.ensures.items) c.was_table.ensures

pub returns-then-is_some-clause-marked : goal.returns-then-is_some-clause-marked
returns-then-is_some-clause-marked c =
    let m = readtables_of c.args.tables.now in
    let n = c.args.to.now in
    let w = c.in_ok-copied-in-Some.copied in
    let marks = c.as_slice.result.now in
    let named : c.as_slice-2.result.now ≡ n = c.as_slice-2.ensures.value ∙ c.in_ok-noted.ensures.name in
    let had : is_some (finite.get m n) ≡ true =
    ap (λ k. is_some (finite.get m k)) (sym c.in_ok-to.ensures.items) ∙ ap is_some (sym c.in_ok-before.ensures.before) ∙ sym c.is_some.ensures ∙ c.if-is_some.true in
    let noted : IsTrue (finite.contains_key m n) → ContinuesTables (marks_of marks) m (marks_of marks) (finite.insert m n w) =
    subst (λ k. IsTrue (finite.contains_key m k) → ContinuesTables (marks_of marks) m (marks_of marks) (finite.insert m k w)) named
    (λ there. c.is_noted-is_noted.ensures c.if-is_noted.true m w there) in
    copied_over (marks_of c.args.marks.now.items) (marks_of c.reserve_named.new.marks.items) c.in_ok-noted.ensures.same m _ n w
    (c.in_ok-before.ensures.ok ∙ ap (λ k. finite.insert m k w) c.in_ok-to.ensures.items)
    (subst (λ (l : List (Vec Note)). ContinuesTables (marks_of l) m (marks_of l) (finite.insert m n w)) c.as_slice.ensures.value (noted had))
