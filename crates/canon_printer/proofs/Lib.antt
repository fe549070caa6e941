pub mod Lists
pub mod PrintedRows
pub mod Resolved
