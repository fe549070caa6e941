-- What a `DeferredDisk` is, by what it was asked.
use Rattle.std.specs.Prelude.{◌≡◌, ℕ, List, length, Result, OnOk, OnErr}
use Rattle.disk_trait.specs.Disk.{State}
use Rattle.deferred_disk.specs.Bytes.{orders_bytes}
use Rattle.deferred_disk.specs.DiskRequests.{CallsValue, with_order, after_report}
use Rattle.deferred_disk.specs.KeptFiles.{IsKeptWhole}
use Rattle.disk_trait.specs.Orders.{OrderValue}
use Rattle.deferred_disk.specs.State.{state_after_orders}
use Rattle.deferred_disk.specs.declared.disk.DeferredDisk.{DeferredDisk}

-- what it was asked
abbrev pub calls_of : DeferredDisk → CallsValue
calls_of disk = disk.past.calls

-- the orders that were not reported done, the newest first
abbrev pub pending_of : DeferredDisk → List OrderValue
pending_of disk = disk.past.calls.pending

-- the state of a disk, from the calls that it noted and whether its writes mix
abbrev pub state_by_calls : DeferredDisk → State
state_by_calls disk = state_after_orders disk.mixes disk.past.calls disk.failures

-- All bytes of both files are in memory. So it is until the first change and the first report.
abbrev pub KeepsAll : DeferredDisk → Type 0
KeepsAll disk = IsKeptWhole disk.a × IsKeptWhole disk.b

-- A call of which this is the order: it is pending after it, or the call failed and nothing was asked.
pub record Asks {T E : Type 0} (order : OrderValue) (old new : DeferredDisk) (result : Result T E) : Type 0 where
  pub ok : OnOk result (calls_of new ≡ with_order (calls_of old) order)
  pub refused : OnErr result (calls_of new ≡ calls_of old)

-- A report that so many bytes of orders were done: all pending ones are done, if they have just so many, and else nothing has changed.
-- So what was asked after the orders were taken is never counted as done.
pub record ReportsOrdersDone (count : ℕ) (old new : DeferredDisk) : Type 0 where
  pub all : count ≡ length (orders_bytes (pending_of old)) → calls_of new ≡ after_report (calls_of old)
  pub other : (count ≡ length (orders_bytes (pending_of old)) → ⊥) → calls_of new ≡ calls_of old
  pub failures : new.failures ≡ old.failures
