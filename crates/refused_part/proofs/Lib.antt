mod Filled
mod Fillings
mod Fitting
pub mod Items
mod Numbers
mod Parts
mod Searching
mod Worlds
