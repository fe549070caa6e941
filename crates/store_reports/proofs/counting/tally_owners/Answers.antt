use Rattle.std.proofs.Common.{◌+◌, ℕ, min, ◌∙◌, ap}
use Rattle.plist_state.specs.Readers.{borrowed_symbol}
use Rattle.store_reports.specs.PropertyCounts.{taken_properties}
use Rattle.store_reports.proofs.Joined.{counted}
use Rattle.store_reports.proofs.counting.tally_owners.Goals as goal

pub loop-owner-preserved : goal.loop-owner-preserved
loop-owner-preserved c =
    let of = taken_properties c.args.selection.now c.args.world.now.0 in (
      counted borrowed_symbol of c.args.owners.now c.loop-owner.owner-index c.loop-owner.tally.properties c.and-tally.result.properties _ c.loop-owner-test.true
          c.loop-owner.invariant.0 (c.and-tally.ensures.properties ∙ ap (λ (n : ℕ). min (c.loop-owner.tally.properties + n) 18446744073709551615) c.taken_properties-properties.ensures),
      counted borrowed_symbol (λ x. min (of x) 1) c.args.owners.now c.loop-owner.owner-index c.loop-owner.tally.symbols c.and-tally.result.symbols _ c.loop-owner-test.true
          c.loop-owner.invariant.1
          (c.and-tally.ensures.symbols ∙ ap (λ (n : ℕ). min (c.loop-owner.tally.symbols + n) 18446744073709551615) (c.min-symbols.ensures ∙ ap (λ (n : ℕ). min n 1) c.taken_properties-properties.ensures)),
    )
