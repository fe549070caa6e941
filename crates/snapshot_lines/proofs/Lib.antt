pub mod NextLine
pub mod Quoted
