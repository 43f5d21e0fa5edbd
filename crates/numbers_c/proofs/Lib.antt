-- The laws of crate `numbers_c`.
pub mod CellsLaws
