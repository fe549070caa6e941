-- what a device answers
pub mod DeviceAnswers
-- what it was asked
pub mod DeviceCalls
-- what its files hold then
pub mod DeviceFiles
-- what is noted of a call
pub mod Notes
-- calls one after the other
pub mod Pieces
-- what the disk over it is
pub mod Told
