pub mod Handed
pub mod Over
pub mod Served
pub mod Stands
pub mod Twice
