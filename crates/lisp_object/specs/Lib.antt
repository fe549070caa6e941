pub mod Ascii
pub mod Datum
mod ByteStorage
pub mod Lowest
pub mod Object
pub mod ObjectCode
pub mod Quotient
pub mod Refusal
pub mod formers
