pub mod Environments
pub mod Definitions
pub mod Counting
pub mod Weights
pub mod KeptFunctions
pub mod LocalOperators
pub mod ReaderFunctions
