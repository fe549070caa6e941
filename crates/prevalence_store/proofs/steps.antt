-- From what the functions below the calls do to what the calls answer.
pub mod Fitting
pub mod Settings
pub mod Naming
pub mod Getting
pub mod Committing
pub mod ForgettingForms
pub mod Grouping
pub mod Together
pub mod Taking
pub mod Turning
pub mod Loading
pub mod PlainTexts
pub mod Replays
pub mod Refusing
pub mod Storing
