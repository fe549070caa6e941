pub mod Names
pub mod Printed
pub mod Symbols
pub mod Written
