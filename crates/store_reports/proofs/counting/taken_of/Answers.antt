use Rattle.std.proofs.Common.{◌∙◌, sym}
use Rattle.plist_state.specs.Views.{property_of}
use Rattle.store_reports.specs.ShownProperties.{is_wanted_name}
use Rattle.store_reports.proofs.Joined.{counted_no, counted_yes}
use Rattle.store_reports.proofs.counting.taken_of.Goals as goal
use Rattle.store_reports.proofs.counting.taken_of.Goals.{else-takes_indicator, then-takes_indicator}

pub loop-index-preserved : goal.loop-index-preserved
loop-index-preserved c =
    elim c.if-takes_indicator.branch [
      | then-takes_indicator w ↦
          counted_yes (λ p. is_wanted_name c.args.selection.now.indicator p.0.1) c.args.properties.now c.loop-index.index c.loop-index.count _ (property_of c.at.result) c.at.ensures.property c.loop-index.invariant
          (sym c.takes_indicator.ensures ∙ w.if-takes_indicator.true) w.count-is
      | else-takes_indicator w ↦
          counted_no (λ p. is_wanted_name c.args.selection.now.indicator p.0.1) c.args.properties.now c.loop-index.index c.loop-index.count _ (property_of c.at.result) c.at.ensures.property c.loop-index.invariant
          (sym c.takes_indicator.ensures ∙ w.if-takes_indicator.false) w.count-is
    ]
