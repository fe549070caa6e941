use Rattle.std.proofs.Common.{◌++◌, ap, ◌∙◌}
use Rattle.world_text.specs.Snapshot.{snapshot_line, packages_object, properties_object, tables_object_1}
use Rattle.world_text.proofs.ThreeLines.{third_line, all_made}
use Rattle.world_text.proofs.writer.write_1.Goals as goal

pub returns : goal.returns
returns c =
    let s = c.args.world.now.0 in
    third_line s c.packages.result.now.0 (packages_object s.packages) _ (tables_object_1 s) c.in_ok-text.text.items c.push_line.new.text.items
    c.packages.ensures c.in_ok-tables_of_1.ensures.object
    (c.in_ok-text.ensures ∙ ap (λ first. snapshot_line s.packages first ++ snapshot_line s.packages (properties_object s)) (all_made s.packages))
    c.in_ok-push_line.ensures
