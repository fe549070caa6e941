use Rattle.store_looks.proofs.Looking.{files_told, world_told}
use Rattle.store_looks.proofs.figures.info_on.Goals as goal

pub returns-then-part-clause-looks : goal.returns-then-part-clause-looks
returns-then-part-clause-looks g c =
    files_told _ _ _ _ _ _ _ c.args.part c.notation_for-notation.result c.notation_for-notation.ensures c.if-part.true c.file_figures_on.result c.file_figures_on.ensures.looks

pub returns-else-part-clause-looks : goal.returns-else-part-clause-looks
returns-else-part-clause-looks g c =
    world_told _ _ _ _ _ _ _ c.args.part c.notation_for-notation.result c.notation_for-notation.ensures c.if-part.false c.figures_on.result c.figures_on.ensures.looks
