pub mod Parting
mod NearRecords
mod LastBatch
mod NearHalves
