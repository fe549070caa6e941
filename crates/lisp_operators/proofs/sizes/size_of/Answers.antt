use Rattle.std.proofs.Common.{sym, ◌∙◌}
use Rattle.lisp_operators.proofs.ListSizes.{list_size}
use Rattle.lisp_operators.proofs.sizes.size_of.Goals as goal

pub returns-else-is_some : goal.returns-else-is_some
returns-else-is_some c =
    list_size c.args.datum.now c.in-List.items c.as_slice.result.now c.in-List.tail c.sizes.result c.saturating_add.result
    c.in-List.is c.requires (sym c.is_some.ensures ∙ c.if-is_some.false) c.as_slice.ensures c.sizes.ensures c.saturating_add.ensures
