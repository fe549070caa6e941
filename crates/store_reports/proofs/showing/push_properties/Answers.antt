use Rattle.plist_state.specs.Views.{property_of}
use Rattle.store_reports.specs.ShownProperties.{shown_property}
use Rattle.store_reports.proofs.Added.{item_added}
use Rattle.store_reports.proofs.showing.push_properties.Goals as goal

pub loop-index-preserved : goal.loop-index-preserved
loop-index-preserved c =
    item_added c.args.text.now.items (shown_property c.args.selection.now c.args.packages.now.0 c.args.symbol.now) c.args.properties.now c.loop-index.index
    (property_of c.at-property.result) c.at-property.ensures.property c.loop-index.invariant c.in_ok-push_wanted.ensures
