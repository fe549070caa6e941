use Rattle.std.proofs.Common.{[], ◌∷◌, ◌++◌, is_ok, if◌then◌else◌, ap, ◌∙◌}
use Rattle.property_rows.specs.Rows.{PropertyRow}
use Rattle.property_rows.proofs.row.Row.push.Goals as goal

pub returns-clause-items : goal.returns-clause-items
returns-clause-items c =
    c.append.ensures.items ∙ ap (λ (row : PropertyRow). if is_ok c.append.result then row.items ++ c.args.property ∷ [] else row.items) c.self.view_is
