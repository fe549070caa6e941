use Rattle.plist_state.specs.Readers.{borrowed_symbol}
use Rattle.plist_state.specs.Views.{property_of}
use Rattle.world_forms.specs.Properties.{property_line, left_out_line}
use Rattle.world_forms.proofs.Added.{item_added}
use Rattle.world_forms.proofs.properties.push_listed.Goals as goal

pub loop-index-preserved : goal.loop-index-preserved
loop-index-preserved c =
    let t = c.args.packages.now.0 in
    let symbol = borrowed_symbol c.args.symbol.now in
    let property = property_of c.at-property.result in
    record {
      text = item_added c.args.text.now.items (property_line t symbol) c.args.properties.now c.loop-index.index property
          c.at-property.ensures.property c.loop-index.invariant.text c.in_ok-push_property.ensures.text;
      left_out = item_added c.args.left_out.now.items (left_out_line t symbol) c.args.properties.now c.loop-index.index property
          c.at-property.ensures.property c.loop-index.invariant.left_out c.in_ok-push_property.ensures.left_out;
    }
