-- from what was read to what is known of it
pub mod Knowing
-- the numbers of a slice are bytes
pub mod Bytes
