pub mod Large
pub mod Trial
