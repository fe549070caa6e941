pub mod Slots
pub mod Rows
pub mod Views
pub mod Vacant
