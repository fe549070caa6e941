pub mod Register
pub mod Burst
