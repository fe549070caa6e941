pub mod EngineCalls
pub mod Engine
pub mod OwnedEngine
pub mod Messages
pub mod Requests
pub mod JoinedTexts
