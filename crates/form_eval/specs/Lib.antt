pub mod Acceptance
pub mod Laws
pub mod PlaceForms
