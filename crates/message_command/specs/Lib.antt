-- what `run DIR --messages` does over the store in a folder
pub mod Session
