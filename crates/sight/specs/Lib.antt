-- What the contracts of crate `sight` cite.
pub mod Blocked
pub mod Paired
pub mod Rows
pub mod Run
