pub mod Calls
pub mod Functions
pub mod Sound
pub mod Registry
pub mod Known
