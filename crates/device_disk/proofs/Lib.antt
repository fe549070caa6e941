-- pieces, one after the other
pub mod Pieces
-- a write in pieces is torn as one in whole
mod Tearing
-- what was noted tells of the device
mod Telling
-- a step of the walks
mod Walks
