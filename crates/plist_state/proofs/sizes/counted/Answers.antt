use Rattle.std.proofs.Common.{Some, sym, ap, ◌∙◌}
use Rattle.plist_state.proofs.Sized.{counted_size}
use Rattle.plist_state.proofs.sizes.counted.Goals as goal

pub returns-in-List : goal.returns-in-List
returns-in-List c = ap Some (c.size.ensures.object c.requires) ∙ sym (counted_size c.args.value.now c.in-List.items c.in-List.tail c.in-List.is c.requires)
