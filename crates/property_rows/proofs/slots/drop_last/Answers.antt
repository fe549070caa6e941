use Rattle.std.proofs.Common.{◌≡◌, ◌∷◌, [], ◌++◌, ◌<◌, ◌-◌, false, get_or, ap, subst, ◌∙◌, arith}
use Rattle.std.specs.Option.{option_to_list}
use Rattle.property_rows.specs.declared.slot.Slot.{Slot}
use Rattle.property_rows.specs.Slots.{IsSlots, is_gone, blank}
use Rattle.property_rows.proofs.Counted.{slots-front}
use Rattle.property_rows.proofs.Written.{last_there}
use Rattle.property_rows.proofs.slots.drop_last.Goals as goal

pub returns-clause-slots : goal.returns-clause-slots
returns-clause-slots c = slots-front c.pop.new.self.items (option_to_list c.pop.result) (subst IsSlots c.pop.ensures.items c.requires.slots)

pub returns-clause-items : goal.returns-clause-items
returns-clause-items c =
    let n = c.args.slots.now.len - 1 in
    let s : Slot = get_or c.args.slots.now.items n blank in
    let some : 0 < c.args.slots.now.len = omega (arith, c.requires.some, c.args.slots.now.ok.0) in
    let parts : c.args.slots.now.items ≡ c.pop.new.self.items ++ s ∷ [] = c.pop.ensures.items ∙ ap (λ r. c.pop.new.self.items ++ option_to_list r) (c.pop.ensures.value blank some) in
    let is : is_gone s ≡ false = ap (λ k. is_gone (get_or c.args.slots.now.items (k - 1) blank)) c.args.slots.now.ok.0 ∙ c.requires.last in
    last_there c.args.slots.now.items c.pop.new.self.items s parts is
