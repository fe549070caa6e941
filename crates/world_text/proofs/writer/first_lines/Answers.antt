use Rattle.world_text.specs.KeptNames.{kept_names}
use Rattle.world_text.specs.Snapshot.{packages_with}
use Rattle.world_text.proofs.ThreeLines.{two_lines}
use Rattle.world_text.proofs.writer.first_lines.Goals as goal

pub returns : goal.returns
returns g c =
    two_lines c.args.world.now.0 c.packages.result.now.0 (λ t. packages_with t (kept_names (g.T.NameTest.keeps c.args.test.now) t))
    c.new-text.result.items c.push_package_line.new.text.items c.push_property_line.new.text.items
    c.packages.ensures
    c.new-text.ensures.items c.in_ok-push_package_line.ensures c.in_ok-push_property_line.ensures
