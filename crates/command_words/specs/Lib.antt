pub mod CheckLine
pub mod CommandLine
pub mod LookLine
pub mod MessageLine
pub mod Rules
pub mod Ways
