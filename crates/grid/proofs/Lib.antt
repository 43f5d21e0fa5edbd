-- The laws of crate `grid`.
pub mod ApplyLaws
pub mod CallLaws
pub mod Determinate
pub mod RefuseLaws
