-- The laws of crate `examples`.
pub mod Longer
