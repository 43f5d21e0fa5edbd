-- The laws of crate `grid_c`.
pub mod Determinate
pub mod ToldLaws
