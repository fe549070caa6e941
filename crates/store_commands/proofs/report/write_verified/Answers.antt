use Rattle.std.proofs.Common.{◌++◌, ℕ, Option}
use Rattle.store_commands.specs.Report.{half_line_of, position_line}
use Rattle.store_commands.proofs.Reports.{tells_position}
use Rattle.store_commands.proofs.report.write_verified.Goals as goal

pub returns-in-Ok : goal.returns-in-Ok
returns-in-Ok g c =
    tells_position _ _ c.in-Ok.position (λ (found : Option ℕ). half_line_of c.args.store.now ++ position_line found) _ _ c.in-Ok.ensures c.write_position.ensures
