pub mod There
pub mod One
pub mod PartsRead
pub mod Symbols
