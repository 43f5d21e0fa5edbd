-- What the contracts of crate `table` cite.
pub mod Columns
pub mod Copied
pub mod Listed
pub mod Search
pub mod Tables
