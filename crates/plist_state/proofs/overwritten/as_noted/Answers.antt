use Rattle.std.proofs.Common.{pos, refl, sym, subst}
use Rattle.lisp_object.specs.declared.datum.Datum.TheVariants.{Integer}
use Rattle.property_rows.specs.declared.property.NumberedProperty.{NumberedProperty}
use Rattle.plist_state.specs.declared.note.PropertyChange.{PropertyChange}
use Rattle.plist_state.specs.declared.note.PropertyChange.TheVariants.{Removed}
use Rattle.plist_state.specs.Journal.{marks_of}
use Rattle.plist_state.specs.OverwrittenValues.{OverwriteLeadsBackAs}
use Rattle.plist_state.proofs.Unnoted.{removed_noted}
use Rattle.plist_state.proofs.overwritten.as_noted.Goals as goal

pub returns-else-not-is_overwritten-clause-back : goal.returns-else-not-is_overwritten-clause-back
returns-else-not-is_overwritten-clause-back c =
    let ms = marks_of c.args.marks.now in
    let k = c.in-Removed.index in
    let p : NumberedProperty = c.in-Removed.property in
    let q : NumberedProperty = record { indicator = p.indicator; order = p.order; value = Integer (pos 0) } in
    subst (λ (change : PropertyChange). OverwriteLeadsBackAs ms c.args.number c.args.count change (Removed k q)) (sym c.in-Removed.is)
    (removed_noted ms c.args.number k c.args.count p q refl (c.is_overwritten.ensures c.if-not-is_overwritten.false))
