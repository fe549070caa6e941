-- What may be left between two orders.
use Rattle.std.proofs.Common.{inl, ◌≡◌, Bool, ℕ, List, [], ◌∷◌, ◌++◌, length, sym, subst, arith, length-append}
use Rattle.disk_trait.specs.Disk.{Image, Performed}
use Rattle.disk_trait.specs.Orders.{OrderValue}
use Rattle.deferred_disk.specs.DiskRequests.{CallsValue, all_of}
use Rattle.deferred_disk.specs.Sound.{left_now}
use Rattle.deferred_disk.specs.State.{OrdersLeftSince, OrdersMayLeave, state_after_orders}

module _ (mixes : Bool) where
  left_between : (start image : Image) (done first later : List OrderValue) → OrdersMayLeave mixes start (first ++ done) image → OrdersLeftSince mixes start ((later ++ first) ++ done) (length done) image
  left_between start image done first [] left = left_now mixes start (first ++ done) (length done) image (omega (arith, length-append first done)) left
  left_between start image done first (order ∷ later) left = inl (left_between start image done first later left)

-- the same of what a disk was asked, from which what was reported is the same
module _ (mixes also : Bool) (old new : CallsValue) (before after : ℕ) (first later : List OrderValue) (image : Image)
    (same : (state_after_orders also new after).performed ≡ (state_after_orders mixes old before).performed) (both : also ≡ mixes) (parts : new.pending ≡ later ++ first)
    (left : OrdersMayLeave mixes old.start (first ++ old.done) image) where
  pub left_some : OrdersLeftSince also new.start (all_of new) (length old.done) image
  left_some =
      subst (λ (m : Bool). OrdersLeftSince m new.start (all_of new) (length old.done) image) (sym both)
      (subst (λ (p : Performed). OrdersLeftSince mixes p.start (new.pending ++ p.done) (length old.done) image) (sym same)
      (subst (λ (l : List OrderValue). OrdersLeftSince mixes old.start (l ++ old.done) (length old.done) image) (sym parts) (left_between mixes old.start image old.done first later left)))

  pub left_none : old.pending ≡ [] → OrdersLeftSince also new.start (all_of new) (length (all_of old)) image
  left_none none = subst (λ (l : List OrderValue). OrdersLeftSince also new.start (all_of new) (length (l ++ old.done)) image) (sym none) left_some
