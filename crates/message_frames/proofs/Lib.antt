pub mod Digits
pub mod Framed
pub mod Keywords
pub mod Lists
pub mod Numerals
pub mod Parts
pub mod Sized
