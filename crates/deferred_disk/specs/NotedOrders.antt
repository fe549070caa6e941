-- An order of the program, as one of the logic.
use Rattle.disk_trait.specs.Orders.{OrderValue, writes, cuts, syncs}
use Rattle.deferred_disk.specs.declared.order.Order.{Order}
use Rattle.deferred_disk.specs.declared.order.Order.TheVariants.{Write, Cut, Sync}

abbrev pub order_value : Order → OrderValue
order_value (Write half at bytes) = writes half at bytes.now
order_value (Cut half len) = cuts half len
order_value (Sync half) = syncs half
