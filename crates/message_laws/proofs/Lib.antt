pub mod Tidy
pub mod KeptOperators
pub mod KeptForms
pub mod TidyForms
pub mod Together
