pub mod Fronts
pub mod PlaceLaws
