use Rattle.std.proofs.Common.{◌≡◌, List, [], take, get_or, subst, arith, rules}
use Rattle.std.specs.Prelude.{All}
use Rattle.std.proofs.lemmas.List.{take_all}
use Rattle.package_table.specs.Table.{Name}
use Rattle.snapshot_text.specs.Phases.{HasOwn, other_packages}
use Rattle.snapshot_text.proofs.AllPackages.{row_at, own_everywhere}
use Rattle.snapshot_text.proofs.Begins.{one_more, own_grown}
use Rattle.snapshot_text.proofs.Gave.{refused_same}
use Rattle.snapshot_text.proofs.package_parts.make_all.Goals as goal

pub returns-in_err-make_each-clause-made : goal.returns-in_err-make_each-clause-made
returns-in_err-make_each-clause-made c = λ s sound part rows.
    let at = row_at s c.args.rows.now c.loop-row.row-index c.row-item.result rows c.loop-row-test.true c.row-item.is in
    let before = c.loop-row.invariant.made s sound part rows in
    refused_same _ c.in_err-make_each.field-0.0
    (c.in_err-make_each.ensures.made s (get_or (other_packages s) c.loop-row.row-index []) sound at.there at.other before.0 at.is)
    c.from_residual.result c.from_residual.ensures.1

pub loop-row-preserved : goal.loop-row-preserved
loop-row-preserved c = record {
  made = λ s sound part rows.
      let at = row_at s c.args.rows.now c.loop-row.row-index c.row-item.result rows c.loop-row-test.true c.row-item.is in
      let before = c.loop-row.invariant.made s sound part rows in
      let done = c.in_ok-make_each.ensures.made s (get_or (other_packages s) c.loop-row.row-index []) sound at.there at.other before.0 at.is in (
        done.0,
        one_more (HasOwn c.loop-row.world.0.packages s) (HasOwn c.make_each.new.world.0.packages s) (other_packages s) c.loop-row.row-index [] at.within
            (λ p has. own_grown _ _ s p has c.in_ok-make_each.ensures.grows) before.1 done.1,
      );
  grows = search rules;
  rest = search rules;
}

pub returns-clause-made : goal.returns-clause-made
returns-clause-made c = λ s sound part rows.
    let after = c.loop-row.invariant.made s sound part rows in
    let long = rows.long in
    let all : take c.loop-row.row-index (other_packages s) ≡ other_packages s = take_all c.loop-row.row-index (other_packages s) (omega arith) in
    let every = own_everywhere c.loop-row.world.0.packages s c.soundness.ensures.present.packages sound
    (subst (λ (ps : List Name). All (HasOwn c.loop-row.world.0.packages s) ps) all after.1) in
    record { sound = sound; part = after.0; own = every }
