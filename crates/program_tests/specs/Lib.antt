-- a store on a new disk in memory, and what a crash leaves of it
pub mod Crashed
