pub mod BuiltWorlds
pub mod NamedFunctions
pub mod Part
pub mod Phases
pub mod SnapshotRefusals
pub mod Rows
