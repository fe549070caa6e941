-- A note of the program, as a call of the logic.
use Rattle.disk_trait.specs.Orders.{OrderValue, writes, cuts, syncs}
use Rattle.device_disk.specs.DeviceCalls as calls
use Rattle.device_disk.specs.DeviceCalls.{DeviceCall}
use Rattle.device_disk.specs.declared.note.DeviceOrder.{DeviceOrder}
use Rattle.device_disk.specs.declared.note.DeviceOrder.TheVariants.{Write, Cut, Sync}
use Rattle.device_disk.specs.declared.note.DeviceNote.{DeviceNote}
use Rattle.device_disk.specs.declared.note.DeviceNote.TheVariants.{Done, Failed, Gave}

abbrev pub order_value : DeviceOrder → OrderValue
order_value (Write half at bytes) = writes half at bytes.now
order_value (Cut half len) = cuts half len
order_value (Sync half) = syncs half

abbrev pub noted_call : DeviceNote → DeviceCall
noted_call (Done order) = calls.done (order_value order)
noted_call (Failed order) = calls.failed (order_value order)
noted_call (Gave half at room bytes) = calls.gave half at room bytes.now
