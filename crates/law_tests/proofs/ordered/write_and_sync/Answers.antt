use Rattle.std.proofs.Common.{false, [], ◌∷◌, ap, ◌∙◌}
use Rattle.disk_trait.specs.declared.half.Half.TheVariants.{A}
use Rattle.disk_trait.specs.Orders.{writes, syncs}
use Rattle.deferred_disk.specs.DiskRequests.{CallsValue}
use Rattle.deferred_disk.specs.State.{state_after_orders}
use Rattle.law_tests.proofs.ordered.write_and_sync.Goals as goal

pub returns : goal.returns
returns c = λ none image left.
    let write = writes A 0 c.args.bytes.now in
    let calls = c.in_ok-sync.ensures.asks.ok ∙ ap (λ (k : CallsValue). record { start = k.start; done = k.done; pending = syncs A ∷ k.pending }) c.in_ok-write_at.ensures.asks.ok in
    c.between_orders.ensures.none_open c.args.disk.now c.sync.new.self (write ∷ []) (syncs A ∷ []) image
    (ap (λ (k : CallsValue). (state_after_orders false k 0).performed) calls) (c.in_ok-sync.ensures.disk.counts.mixes ∙ c.in_ok-write_at.ensures.disk.counts.mixes) none
    (ap (λ (k : CallsValue). k.pending) calls ∙ ap (λ l. syncs A ∷ write ∷ l) none) left
