pub mod Bytes
pub mod DiskRequests
pub mod Disk
pub mod KeptFiles
pub mod MixedWrites
pub mod NotedOrders
pub mod Sound
pub mod State
