use Rattle.std.proofs.Common.{◌≡◌, None, List, length, slice_range, subst, arith}
use Rattle.plist_state.specs.declared.note.Note.{Note}
use Rattle.plist_state.specs.OverwrittenValues.{before_notes}
use Rattle.plist_state.proofs.Unnoted.{overwritten_since}
use Rattle.plist_state.proofs.overwritten.is_overwritten.Goals as goal

pub returns : goal.returns
returns c = λ gone.
    overwritten_since c.args.marks.now c.in-Some.notes.now c.in-Some.ensures.value c.args.number c.args.place c.first_looked_at-first.result
    (subst (λ (ns : List Note). before_notes c.args.number (slice_range ns c.first_looked_at-first.result (length ns)) c.args.place ≡ None) c.as_slice-2.ensures.value (c.overwrites.ensures gone))
    (omega (arith, c.if-place.false))
