pub mod Coming
pub mod Plain
pub mod SelfEvaluating
pub mod Texts
pub mod Tokens
pub mod Words
pub mod Written
