use Rattle.std.proofs.Common.{length, refl, sym, ap, subst, ◌≡◌, ◌∙◌}
use Rattle.plist_state.specs.declared.note.PropertyChange.{PropertyChange}
use Rattle.plist_state.specs.declared.note.Note.TheVariants.{Property}
use Rattle.plist_state.specs.Lists.{NumberedLists, plist_of_number}
use Rattle.plist_state.specs.Journal.{marks_of}
use Rattle.plist_state.specs.Undoing.{rest_before}
use Rattle.plist_state.proofs.Unnoted.{not_noted}
use Rattle.plist_state.proofs.stored.needs_no_note.Goals as goal

pub returns : goal.returns
returns c = λ some t u same undoes.
    not_noted (marks_of c.args.marks.now) c.args.number _ c.in-Set.index c.in-Set.value refl (c.is_overwritten.ensures some) t u
    (ap (λ (m : NumberedLists). length (plist_of_number m c.args.number)) same ∙ sym c.count-length.ensures)
    (subst (λ (change : PropertyChange). rest_before (Property c.args.number change) u ≡ t) c.in-Set.is undoes)
