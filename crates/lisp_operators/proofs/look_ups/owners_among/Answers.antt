use Rattle.std.proofs.Common.{[], is_some}
use Rattle.plist_state.specs.Changes.{property}
use Rattle.plist_state.specs.Views.{symbol_named}
use Rattle.lisp_operators.proofs.LookUpSteps.{owners_more}
use Rattle.lisp_operators.proofs.look_ups.owners_among.Goals as goal

pub loop-name-preserved : goal.loop-name-preserved
loop-name-preserved c =
    let home = c.args.home.now in (
      owners_more (λ n. is_some (property c.args.world.now.0 (home, n) (symbol_named c.args.indicator))) home c.args.names.now c.loop-name.name-index (record { ref_ptr = (0, 0); now = [] })
          c.loop-name.owners.items c.push_owner.new.owners.items c.loop-name-test.true c.loop-name.invariant.0 c.in_ok-push_owner.ensures.value,
      c.in_ok-push_owner.ensures.proper,
    )
