mod Answering
pub mod AskedTogether
mod ClientNames
mod EntryMade
mod EntryRead
mod Escaping
mod Found
pub mod Fronts
mod Joining
mod Kept
mod Lookups
pub mod NamedNear
mod Once
pub mod Settling
mod Shapes
mod Spaces
mod StayingForms
mod StayingSymbols
