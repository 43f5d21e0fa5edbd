-- The laws of crate `print`.
pub mod CellLaws
pub mod DecimalLaws
pub mod Determinate
pub mod NumberLaws
pub mod PrintLaws
pub mod PutLaws
pub mod RowLaws
pub mod WroteLaws
