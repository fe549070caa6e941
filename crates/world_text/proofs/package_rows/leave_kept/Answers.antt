use Rattle.std.proofs.Common.{rules, ap, map, ◌∙◌}
use Rattle.std.proofs.lemmas.Fn.{filter_same}
use Rattle.world_text.proofs.RowsWritten.{filter_images}
use Rattle.world_text.proofs.package_rows.leave_kept.Goals as goal

pub returns : goal.returns
returns g c =
    let keeps = g.T.NameTest.keeps c.args.test.now c.args.owner.now in
    ap (map (λ n. n.now)) (filter_same _ (λ n. keeps n.now) _ (λ x b f' k. search rules) _ _ c.retain.ensures.filtered)
    ∙ filter_images keeps (λ n. n.now) c.args.names.now.items
