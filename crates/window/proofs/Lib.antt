-- The laws of crate `window`.
pub mod Whole
