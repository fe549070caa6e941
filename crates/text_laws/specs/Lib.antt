-- forms as objects
pub mod Objects
