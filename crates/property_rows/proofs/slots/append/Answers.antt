use Rattle.std.proofs.Common.{◌*◌, ◌++◌, ◌∷◌, [], is_ok, refl, sym, ap, subst, ◌∙◌, arith}
use Rattle.property_rows.specs.declared.slot.Slot.{Slot}
use Rattle.property_rows.specs.Slots.{IsTree}
use Rattle.property_rows.proofs.Written.{either_slots, either_there, next_slots, appended}
use Rattle.property_rows.proofs.slots.append.Goals.{in-Ok, in-Err}
use Rattle.property_rows.proofs.slots.append.Goals as goal

pub returns-clause-slots : goal.returns-clause-slots
returns-clause-slots c =
    let s : Slot = record { indicator = c.args.property.indicator; gone = 2 * c.gone_before_next-before.result; order = c.args.property.order; value = c.args.property.value } in
    either_slots (is_ok c.push.result) c.push.new.self.items c.args.slots.now.items (c.args.slots.now.items ++ s ∷ []) c.push.ensures.items c.requires
    (next_slots c.args.slots.now.items c.tree_of.result s (omega (arith, c.if-count-ge-MOST.false, c.len-count.ensures, c.args.slots.now.ok.0))
    (subst (λ l. IsTree c.tree_of.result (l ++ s ∷ [])) c.as_slice.ensures.value (c.gone_before_next-before.ensures.next s refl)))

pub returns-clause-items : goal.returns-clause-items
returns-clause-items c =
    let s : Slot = record { indicator = c.args.property.indicator; gone = 2 * c.gone_before_next-before.result; order = c.args.property.order; value = c.args.property.value } in
    either_there (is_ok c.push.result) (is_ok c.match-push.result) c.push.new.self.items c.args.slots.now.items (c.args.slots.now.items ++ s ∷ []) _ _ c.push.ensures.items
    (elim c.match-push.branch [ in-Ok w ↦ ap is_ok w.in-Ok.is ∙ sym (ap is_ok w.result-is) | in-Err w ↦ ap is_ok w.in-Err.is ∙ sym (ap is_ok w.result-is) ])
    refl (appended c.args.slots.now.items s c.gone_before_next-before.result refl)
