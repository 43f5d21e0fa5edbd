-- The laws of crate `report`.
pub mod CallLaws
pub mod ColumnLaws
pub mod Determinate
pub mod EndLaws
pub mod MapLaws
