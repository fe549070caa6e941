-- What the functions below the calls do, each file beside the source file of its name.
pub mod Failure
pub mod Together
pub mod Setting
pub mod Named
pub mod Batch
pub mod Group
pub mod Open
