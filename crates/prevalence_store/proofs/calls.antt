-- On what calls answer, and how calls and parts of a session join.
pub mod LeftAlone
pub mod Telling
pub mod Executing
pub mod Snapshotting
pub mod CuttingZeros
pub mod Running
