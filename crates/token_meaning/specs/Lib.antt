pub mod Folding
pub mod Numerals
pub mod Numbers
pub mod Grammar
pub mod Meanings
pub mod Results
pub mod Leading
