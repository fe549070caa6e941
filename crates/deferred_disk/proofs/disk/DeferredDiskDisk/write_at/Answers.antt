use Rattle.std.proofs.Common.{◌≡◌, refl, subst}
use Rattle.disk_trait.specs.Disk.{AreBytes}
use Rattle.disk_trait.specs.Orders.{writes}
use Rattle.deferred_disk.specs.DiskRequests.{CallsValue, all_of, with_order}
use Rattle.deferred_disk.specs.State.{AllWriteBytes}
use Rattle.deferred_disk.proofs.Growing.{noted_done, noted_mixes, noted_tears}
use Rattle.deferred_disk.proofs.disk.DeferredDiskDisk.write_at.Goals as goal

pub returns-in-Ok-clause-disk : goal.returns-in-Ok-clause-disk
returns-in-Ok-clause-disk c =
    let was = c.args.self.now in
    let now = c.try_write.new.self in
    let half = c.args.half in
    let at = c.args.at in
    let bytes = c.args.bytes.now in
    let within = c.requires.within refl in
    let noted : now.past.calls ≡ with_order was.past.calls (writes half at bytes) = c.in-Ok.ensures.asks.ok in
    let manner = c.try_write.ensures.mixes in
    let are : AreBytes bytes = (subst (λ (k : CallsValue). AllWriteBytes (all_of k)) noted now.wrote).0 in
    record {
      counts = record { honest = refl; mixes = manner; failures = c.try_write.ensures.failures };
      tears = λ honest. noted_tears was.mixes now.mixes was.past.calls now.past.calls was.failures now.failures half at bytes manner noted within are was.wrote was.began;
      mixes = λ honest mixing. noted_mixes was.mixes now.mixes was.past.calls now.past.calls was.failures now.failures half at bytes manner noted within mixing;
      done = λ honest. noted_done was.mixes now.mixes was.past.calls now.past.calls was.failures now.failures half at bytes manner noted within;
    }
