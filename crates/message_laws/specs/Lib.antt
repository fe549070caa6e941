-- requests in batches
pub mod Batches
-- rounds that are the same to the next requests
pub mod NearRounds
