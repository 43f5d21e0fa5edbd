-- The laws of crate `blocks`.
pub mod CountLaws
pub mod Determinate
pub mod ForestLaws
pub mod GrownLaws
pub mod MetLaws
pub mod PlaceLaws
