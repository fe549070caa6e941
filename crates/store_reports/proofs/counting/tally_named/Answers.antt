use Rattle.std.proofs.Common.{◌+◌, ℕ, min, ◌∙◌, ap}
use Rattle.store_reports.specs.PropertyCounts.{printed_properties, printed_symbols}
use Rattle.store_reports.proofs.Joined.{counted}
use Rattle.store_reports.proofs.counting.tally_named.Goals as goal

pub loop-name-preserved : goal.loop-name-preserved
loop-name-preserved c =
    let wanted = c.args.asked.now.selection.now in
    let text = c.args.asked.now.symbol.now in (
      counted (λ n. n.now) (λ name. printed_properties wanted c.args.world.now.0 text (c.args.home.now, name)) c.args.names.now c.loop-name.name-index c.loop-name.tally.properties
          c.and-tally.result.properties _ c.loop-name-test.true c.loop-name.invariant.0
          (c.and-tally.ensures.properties ∙ ap (λ (n : ℕ). min (c.loop-name.tally.properties + n) 18446744073709551615) c.in_ok-here.ensures.properties),
      counted (λ n. n.now) (λ name. printed_symbols wanted c.args.world.now.0 text (c.args.home.now, name)) c.args.names.now c.loop-name.name-index c.loop-name.tally.symbols
          c.and-tally.result.symbols _ c.loop-name-test.true c.loop-name.invariant.1
          (c.and-tally.ensures.symbols ∙ ap (λ (n : ℕ). min (c.loop-name.tally.symbols + n) 18446744073709551615) c.in_ok-here.ensures.symbols),
    )
