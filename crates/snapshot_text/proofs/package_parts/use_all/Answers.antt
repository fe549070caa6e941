use Rattle.std.proofs.Common.{◌≡◌, List, [], take, get_or, subst, arith, rules}
use Rattle.std.specs.Prelude.{All}
use Rattle.std.proofs.lemmas.List.{take_all}
use Rattle.package_table.specs.Table.{Name}
use Rattle.snapshot_text.specs.Phases.{HasUses, other_packages}
use Rattle.snapshot_text.proofs.AllPackages.{row_at, uses_everywhere}
use Rattle.snapshot_text.proofs.Begins.{begun_grown, one_more, uses_grown}
use Rattle.snapshot_text.proofs.Gave.{refused_same}
use Rattle.snapshot_text.proofs.package_parts.use_all.Goals as goal

pub returns-in_err-use_each-clause-made : goal.returns-in_err-use_each-clause-made
returns-in_err-use_each-clause-made c = λ s begun rows.
    let at = row_at s c.args.rows.now c.loop-row.row-index c.row-item.result rows c.loop-row-test.true c.row-item.is in
    let before = c.loop-row.invariant.made s begun rows in
    refused_same _ c.in_err-use_each.field-0.0
    (c.in_err-use_each.ensures.made s (get_or (other_packages s) c.loop-row.row-index []) (begun_grown _ _ s begun c.loop-row.invariant.grows before.0) at.is at.other)
    c.from_residual.result c.from_residual.ensures.1

pub loop-row-preserved : goal.loop-row-preserved
loop-row-preserved c = record {
  made = λ s begun rows.
      let at = row_at s c.args.rows.now c.loop-row.row-index c.row-item.result rows c.loop-row-test.true c.row-item.is in
      let before = c.loop-row.invariant.made s begun rows in
      let done = c.in_ok-use_each.ensures.made s (get_or (other_packages s) c.loop-row.row-index []) (begun_grown _ _ s begun c.loop-row.invariant.grows before.0) at.is at.other in (
        done.0,
        one_more (HasUses c.loop-row.world.0.packages s) (HasUses c.use_each.new.world.0.packages s) (other_packages s) c.loop-row.row-index [] at.within
            (λ p has. uses_grown _ _ s p has c.in_ok-use_each.ensures.grows) before.1 done.1,
      );
  grows = search rules;
  rest = search rules;
}

pub returns-clause-made : goal.returns-clause-made
returns-clause-made c = λ s begun rows.
    let after = c.loop-row.invariant.made s begun rows in
    let long = rows.long in
    let all : take c.loop-row.row-index (other_packages s) ≡ other_packages s = take_all c.loop-row.row-index (other_packages s) (omega arith) in
    let every = uses_everywhere c.loop-row.world.0.packages s c.soundness.ensures.present.packages begun.sound
    (subst (λ (ps : List Name). All (HasUses c.loop-row.world.0.packages s) ps) all after.1) in
    (begun_grown _ _ s begun c.loop-row.invariant.grows after.0, every)
