-- what comes of forms, one after the other
pub mod FormAnswers
-- how a session goes: its streams, when it takes snapshots, and how it ends
pub mod Streams
pub mod Pace
pub mod Serve
-- and who gets its lines
pub mod Account
-- what the functions below the calls do
pub mod steps
