pub mod Added
pub mod Settings
