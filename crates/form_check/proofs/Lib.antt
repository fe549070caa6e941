mod Turns
mod Lines
mod Beginnings
