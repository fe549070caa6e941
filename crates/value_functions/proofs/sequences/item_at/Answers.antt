use Rattle.std.proofs.Common.{rules}
use Rattle.value_functions.proofs.Places.{index_negative, index_past}
use Rattle.value_functions.proofs.sequences.item_at.Goals as goal
use Rattle.value_functions.proofs.sequences.item_at.Goals.{then-index-lt0-via-then-index-lt0, then-index-lt0-via-else-index-lt0+then-index-items}

pub returns-then-index-lt0-clause-value : goal.returns-then-index-lt0-clause-value
returns-then-index-lt0-clause-value c =
    elim c.then-index-lt0.branch [
      | then-index-lt0-via-then-index-lt0 w ↦ index_negative c.args.items.now c.args.index (search rules)
      | then-index-lt0-via-else-index-lt0+then-index-items w ↦ index_past c.args.items.now c.args.index (search rules)
    ]
