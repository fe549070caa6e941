pub mod Positions
pub mod Making
pub mod Settling
pub mod Shapes
pub mod Owned
pub mod Fronts
pub mod ByNumber
