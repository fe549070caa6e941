use Rattle.store_reports.specs.PropertyCounts.{printed_properties, printed_symbols, sum_at_home}
use Rattle.store_reports.proofs.Joined.{counted_told}
use Rattle.store_reports.proofs.counting.tally_homes.Goals as goal

pub loop-home-preserved : goal.loop-home-preserved
loop-home-preserved c =
    let wanted = c.args.asked.now.selection.now in
    let text = c.args.asked.now.symbol.now in (
      counted_told (λ n. n.now) (sum_at_home c.args.world.now.0 (printed_properties wanted c.args.world.now.0 text)) c.args.homes.now c.loop-home.home-index c.loop-home.tally.properties
          c.in_ok-here.here.properties c.and-tally.result.properties _ c.loop-home-test.true c.loop-home.invariant.0 c.in_ok-here.ensures.properties c.and-tally.ensures.properties,
      counted_told (λ n. n.now) (sum_at_home c.args.world.now.0 (printed_symbols wanted c.args.world.now.0 text)) c.args.homes.now c.loop-home.home-index c.loop-home.tally.symbols
          c.in_ok-here.here.symbols c.and-tally.result.symbols _ c.loop-home-test.true c.loop-home.invariant.1 c.in_ok-here.ensures.symbols c.and-tally.ensures.symbols,
    )
