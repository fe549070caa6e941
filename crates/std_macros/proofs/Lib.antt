pub mod Headed
pub mod MarkNames
pub mod Names
pub mod Repeating
pub mod SoundData
