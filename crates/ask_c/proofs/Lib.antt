-- The laws of crate `ask_c`.
pub mod Determinate
