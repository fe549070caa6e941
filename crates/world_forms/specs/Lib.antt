pub mod Forms
pub mod Packages
pub mod Properties
pub mod Readtables
pub mod NameTokens
