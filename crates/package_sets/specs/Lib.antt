pub mod SymbolChains
pub mod Changes
pub mod Consistent
pub mod Groups
pub mod InheritedNames
pub mod KeptSets
pub mod Views
