pub mod CheckReports
pub mod Looks
pub mod LookReports
pub mod FailedLooks
