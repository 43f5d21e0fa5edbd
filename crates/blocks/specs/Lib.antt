-- What the contracts of crate `blocks` cite.
pub mod Counted
pub mod Forest
pub mod Grown
