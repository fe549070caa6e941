-- what the recipient of the answers keeps account of, and asks
pub mod Account
-- what is answered to frames
pub mod FrameAnswers
-- how a session goes, and how it ends
pub mod MessageSessions
-- where it stands to the recipient
pub mod Standing
-- its steps
pub mod Steps
