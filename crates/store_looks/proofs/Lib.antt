pub mod CheckedTexts
pub mod Looking
pub mod Printing
pub mod Refusals
