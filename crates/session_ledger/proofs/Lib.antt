-- what goes out of a session, one time more
pub mod Sending
-- steps of walks
pub mod Walks
