pub mod NameBytes
pub mod Standard
pub mod Sound
pub mod PutBack
pub mod Named
