pub mod Steps
pub mod Bits
pub mod Entries
pub mod Texts
