-- What a caller sees of a store, and what each call answers.
pub mod Store
pub mod Execute
pub mod Snapshot
pub mod Zeros
pub mod Run
pub mod ExecuteAll
pub mod Open
