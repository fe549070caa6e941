pub mod WithFunctions
