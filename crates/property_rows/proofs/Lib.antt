pub mod Counted
pub mod Turned
pub mod Holding
pub mod Packed
pub mod Written
pub mod Rooms
