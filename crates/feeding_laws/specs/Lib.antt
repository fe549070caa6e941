-- frames that are fed again
pub mod Feeding
