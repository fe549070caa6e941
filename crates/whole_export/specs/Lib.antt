-- how a state reads while its readtables are made
pub mod Standard
-- a state without the properties that are left out
pub mod KeptWorld
-- how a session over an export ends
pub mod ExportSession
