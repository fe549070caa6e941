pub mod Places
pub mod Positions
pub mod Chaining
pub mod Seeking
pub mod Growing
pub mod Namesakes
pub mod Cut
mod Guesses
