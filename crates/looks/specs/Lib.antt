-- What the contracts of crate `looks` cite.
pub mod Tested
