-- On forms and worlds.
pub mod Transactions
pub mod Numbered
pub mod Replaying
pub mod Covering
pub mod Migrating
