-- What the functions below the calls do, each file beside the source file of its name; and what a form does to the store.
pub mod Forms
pub mod Input
pub mod PropertyLine
pub mod Output
pub mod Answer
pub mod Schedule
pub mod Course
pub mod Serve
pub mod Gather
pub mod Standing
