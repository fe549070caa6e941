pub mod Snapshot
pub mod PrintedTokens
pub mod Lines
pub mod ObjectTexts
pub mod KeptNames
