pub mod Marks
pub mod Tokens
pub mod Spelling
pub mod ByteByByte
