-- what went out of a session
pub mod OutgoingLines
-- how it is recorded
pub mod Ledger
