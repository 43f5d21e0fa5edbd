-- The laws of crate `plane`.
pub mod Determinate
