mod Interrupted
mod Passing
mod Written
