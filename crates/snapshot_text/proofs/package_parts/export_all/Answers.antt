use Rattle.std.proofs.Common.{◌≡◌, List, [], take, get_or, subst, arith, rules}
use Rattle.std.specs.Prelude.{All}
use Rattle.std.proofs.lemmas.List.{take_all}
use Rattle.package_table.specs.Table.{Name}
use Rattle.snapshot_text.specs.Phases.{HasExternals, other_packages}
use Rattle.snapshot_text.proofs.AllPackages.{row_at, externals_everywhere}
use Rattle.snapshot_text.proofs.Begins.{begun_grown, symbols_grown, one_more, externals_grown}
use Rattle.snapshot_text.proofs.Gave.{refused_same}
use Rattle.snapshot_text.proofs.package_parts.export_all.Goals as goal

pub returns-in_err-export_each-clause-made : goal.returns-in_err-export_each-clause-made
returns-in_err-export_each-clause-made c = λ s begun has rows.
    let at = row_at s c.args.rows.now c.loop-row.row-index c.row-item.result rows c.loop-row-test.true c.row-item.is in
    let before = c.loop-row.invariant.made s begun has rows in
    refused_same _ c.in_err-export_each.field-0.0
    (c.in_err-export_each.ensures.made s (get_or (other_packages s) c.loop-row.row-index []) (begun_grown _ _ s begun c.loop-row.invariant.grows before.0) (symbols_grown _ _ s (get_or (other_packages s) c.loop-row.row-index []) (has (get_or (other_packages s) c.loop-row.row-index []) at.there) c.loop-row.invariant.grows) at.is at.other)
    c.from_residual.result c.from_residual.ensures.1

pub loop-row-preserved : goal.loop-row-preserved
loop-row-preserved c = record {
  made = λ s begun has rows.
      let at = row_at s c.args.rows.now c.loop-row.row-index c.row-item.result rows c.loop-row-test.true c.row-item.is in
      let before = c.loop-row.invariant.made s begun has rows in
      let done = c.in_ok-export_each.ensures.made s (get_or (other_packages s) c.loop-row.row-index []) (begun_grown _ _ s begun c.loop-row.invariant.grows before.0) (symbols_grown _ _ s (get_or (other_packages s) c.loop-row.row-index []) (has (get_or (other_packages s) c.loop-row.row-index []) at.there) c.loop-row.invariant.grows) at.is at.other in (
        done.0,
        one_more (HasExternals c.loop-row.world.0.packages s) (HasExternals c.export_each.new.world.0.packages s) (other_packages s) c.loop-row.row-index [] at.within
            (λ p has. externals_grown _ _ s p has c.in_ok-export_each.ensures.grows) before.1 done.1,
      );
  grows = search rules;
  rest = search rules;
}

pub returns-clause-made : goal.returns-clause-made
returns-clause-made c = λ s begun has rows.
    let after = c.loop-row.invariant.made s begun has rows in
    let long = rows.long in
    let all : take c.loop-row.row-index (other_packages s) ≡ other_packages s = take_all c.loop-row.row-index (other_packages s) (omega arith) in
    let every = externals_everywhere c.loop-row.world.0.packages s c.soundness.ensures.present.packages begun.sound
    (subst (λ (ps : List Name). All (HasExternals c.loop-row.world.0.packages s) ps) all after.1) in
    (begun_grown _ _ s begun c.loop-row.invariant.grows after.0, every)
