pub mod meaning
mod Reported
pub mod Surviving
pub mod Joining
pub mod calls
pub mod steps
