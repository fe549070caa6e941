-- the numbers of a slice of bytes
pub mod Bytes
-- two forms that are asked
pub mod SameAnswers
-- a form that was taken, and what is found after a crash
pub mod Taken
