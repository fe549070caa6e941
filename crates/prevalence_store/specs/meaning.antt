-- What forms and files mean, in the order in which it builds up.
pub mod Forgetting
pub mod Acceptance
pub mod Files
pub mod Version1
pub mod Version2
pub mod BeforeOperators
