pub mod Added
pub mod Joined
pub mod Manners
pub mod ShownTexts
