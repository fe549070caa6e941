-- which symbols a world needs
pub mod NeededSymbols
-- a world without the others
pub mod WorldsWithoutNames
-- symbols that are marked by their numbers
pub mod Marks
