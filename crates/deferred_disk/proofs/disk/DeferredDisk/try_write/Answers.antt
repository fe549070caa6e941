use Rattle.std.proofs.Common.{◌≡◌, ℕ, List, ◌≤◌, ◌++◌, ap, sym, subst, length, ◌∙◌}
use Rattle.disk_trait.specs.Disk.{HoldsBytes, file_of}
use Rattle.disk_trait.specs.ReplayBytes.{each_byte, bytes_tested}
use Rattle.disk_trait.specs.declared.half.Half.{Half}
use Rattle.disk_trait.specs.Orders.{writes}
use Rattle.deferred_disk.specs.Bytes.{order_bytes, orders_bytes}
use Rattle.deferred_disk.specs.DiskRequests.{CallsValue, all_of, with_order}
use Rattle.deferred_disk.specs.KeptFiles.{IsKeptOf}
use Rattle.deferred_disk.specs.State.{AllAreWithin, AllWriteBytes, reads_by}
use Rattle.deferred_disk.proofs.disk.DeferredDisk.try_write.Goals as goal

pub invariant_of-self-in-A : goal.invariant_of-self-in-A
invariant_of-self-in-A c =
    let was = c.args.self.now in
    let order = writes c.args.half c.args.at c.args.bytes.now in
    let noted = sym (c.then-self.ensures ∙ ap (λ (half : Half). with_order was.past.calls (writes half c.args.at c.args.bytes.now)) c.in-A.is) in
    let are = bytes_tested c.args.bytes.now (each_byte c.args.bytes.now (λ i. (c.type_inv.bytes i).fits)) in
    let within = subst (λ (half : Half). c.args.at ≤ length (file_of half (reads_by was.past.calls.start (all_of was.past.calls)))) c.in-A.is c.requires in
    record {
      a_kept = subst (λ (l : CallsValue). IsKeptOf c.write.new.self (reads_by l.start (all_of l)).a) noted (c.write.ensures _ was.a_kept);
      b_kept = subst (λ (l : CallsValue). IsKeptOf was.b (reads_by l.start (all_of l)).b) noted was.b_kept;
      orders_are = subst (λ (l : CallsValue). c.push.new.orders.items ≡ orders_bytes l.pending) (sym c.then-self.ensures)
          (c.in_ok-push.ensures ∙ ap (λ (l : List ℕ). l ++ order_bytes order) was.orders_are);
      began = subst (λ (l : CallsValue). HoldsBytes l.start) noted was.began;
      wrote = subst (λ (l : CallsValue). AllWriteBytes (all_of l)) noted (are, was.wrote);
      within = subst (λ (l : CallsValue). AllAreWithin l.start (all_of l)) noted (within, was.within);
    }

pub invariant_of-self-in-B : goal.invariant_of-self-in-B
invariant_of-self-in-B c =
    let was = c.args.self.now in
    let order = writes c.args.half c.args.at c.args.bytes.now in
    let noted = sym (c.then-self.ensures ∙ ap (λ (half : Half). with_order was.past.calls (writes half c.args.at c.args.bytes.now)) c.in-B.is) in
    let are = bytes_tested c.args.bytes.now (each_byte c.args.bytes.now (λ i. (c.type_inv.bytes i).fits)) in
    let within = subst (λ (half : Half). c.args.at ≤ length (file_of half (reads_by was.past.calls.start (all_of was.past.calls)))) c.in-B.is c.requires in
    record {
      a_kept = subst (λ (l : CallsValue). IsKeptOf was.a (reads_by l.start (all_of l)).a) noted was.a_kept;
      b_kept = subst (λ (l : CallsValue). IsKeptOf c.write-in-B.new.self (reads_by l.start (all_of l)).b) noted (c.write-in-B.ensures _ was.b_kept);
      orders_are = subst (λ (l : CallsValue). c.push.new.orders.items ≡ orders_bytes l.pending) (sym c.then-self.ensures)
          (c.in_ok-push.ensures ∙ ap (λ (l : List ℕ). l ++ order_bytes order) was.orders_are);
      began = subst (λ (l : CallsValue). HoldsBytes l.start) noted was.began;
      wrote = subst (λ (l : CallsValue). AllWriteBytes (all_of l)) noted (are, was.wrote);
      within = subst (λ (l : CallsValue). AllAreWithin l.start (all_of l)) noted (within, was.within);
    }
