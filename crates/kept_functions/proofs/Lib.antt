pub mod Weighing
pub mod Items
pub mod Members
pub mod Variables
pub mod Readers
pub mod Keeping
