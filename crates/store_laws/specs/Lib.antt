-- whatever happened to a store, in any order
pub mod Histories
-- calls whose forms are logged together
pub mod Batches
-- what a session over an input comes to
pub mod Outcomes
-- what is handed to the recipient of a session
pub mod SessionLines
-- what a crash leaves of a store in which messages were answered
pub mod Messages
-- rounds of messages, one after the other
pub mod Rounds
