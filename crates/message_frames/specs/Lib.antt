pub mod Frames
pub mod WholeFrames
pub mod Lists
pub mod Numbers
pub mod Reading
pub mod Words
pub mod WrittenFrames
