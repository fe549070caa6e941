use Rattle.std.proofs.Common.{◌+◌, ℕ, length, min, ◌∙◌, ap}
use Rattle.plist_state.specs.Changes.{plist}
use Rattle.plist_state.specs.Readers.{borrowed_symbol}
use Rattle.store_reports.proofs.Joined.{counted}
use Rattle.store_reports.proofs.figures.property_count.Goals as goal

pub loop-owner-preserved : goal.loop-owner-preserved
loop-owner-preserved c =
    counted borrowed_symbol (λ symbol. length (plist c.args.world.now.0 symbol)) c.args.owners.now c.loop-owner.owner-index c.loop-owner.count c.saturating_add-count.result _
    c.loop-owner-test.true c.loop-owner.invariant
    (c.saturating_add-count.ensures ∙ ap (λ (n : ℕ). min (c.loop-owner.count + n) 18446744073709551615) (c.len.ensures ∙ ap length c.plist_of.ensures))
