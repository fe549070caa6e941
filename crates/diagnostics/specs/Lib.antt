pub mod Faults
pub mod Places
pub mod Refusals
pub mod StreamTexts
