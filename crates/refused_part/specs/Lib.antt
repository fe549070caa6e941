pub mod NearNames
pub mod Part
pub mod PartPlaces
pub mod Search
