pub mod Again
pub mod Both
pub mod Accepted
pub mod TrialForms
