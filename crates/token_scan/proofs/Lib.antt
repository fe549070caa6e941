pub mod Steps
pub mod Spelled
pub mod Split
pub mod Standing
pub mod Forwards
pub mod Rows
