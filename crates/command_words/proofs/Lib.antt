pub mod CommandLineLaws
pub mod CommandSteps
pub mod FoundLooks
pub mod FoundWords
pub mod MessageLaws
pub mod Options
pub mod WordSteps
