use Rattle.world_text.specs.KeptNames.{kept_names}
use Rattle.world_text.specs.Snapshot.{packages_with, tables_object}
use Rattle.world_text.proofs.ThreeLines.{third_line}
use Rattle.world_text.proofs.writer.write_kept.Goals as goal

pub returns : goal.returns
returns g c =
    let s = c.args.world.now.0 in
    third_line s c.packages.result.now.0 (packages_with s.packages (kept_names (g.T.NameTest.keeps c.args.test.now) s.packages)) _ (tables_object s)
    c.in_ok-text.text.items c.push_line.new.text.items
    c.packages.ensures c.in_ok-tables_of.ensures.object c.in_ok-text.ensures c.in_ok-push_line.ensures
