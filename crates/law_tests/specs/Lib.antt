-- what is known of what was read
pub mod Known
-- the account of a session of messages up to its first answers
pub mod FirstAnswers
-- a half of version 3 between two writes
pub mod Writes
