-- The laws of crate `intake`.
pub mod Determinate
pub mod GoingLaws
pub mod ShownLaws
