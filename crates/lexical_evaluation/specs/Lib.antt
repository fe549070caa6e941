pub mod Values
pub mod Calls
pub mod InForce
pub mod Laws
pub mod Machine
pub mod Ways
pub mod Arguments
pub mod Steps
