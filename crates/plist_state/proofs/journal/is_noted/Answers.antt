use Rattle.std.proofs.Common.{◌≡◌, true, length, slice_range, sym, ap, ◌∙◌}
use Rattle.std.specs.List.{list_any}
use Rattle.plist_state.specs.Undoing.{restores}
use Rattle.plist_state.proofs.Restored.{any_within, none_wanted}
use Rattle.plist_state.proofs.journal.is_noted.Goals as goal

pub returns : goal.returns
returns c = λ some m t there r.
    let n = c.args.name.now in
    let notes = c.as_slice.result.now in
    let newest : list_any (restores n) (slice_range notes c.saturating_sub-first.result (length notes)) ≡ true = sym c.is_restored.ensures ∙ some in
    let one : list_any (restores n) c.in-Some.notes.now.items ≡ true =
    ap (list_any (restores n)) (sym c.as_slice.ensures.value) ∙ any_within (restores n) c.saturating_sub-first.result (length notes) notes newest in
    none_wanted c.args.marks.now c.in-Some.notes.now c.in-Some.ensures.value n one m t there r
