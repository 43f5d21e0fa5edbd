-- The laws of crate `table`.
pub mod AllLaws
pub mod ColumnLaws
pub mod Determinate
pub mod FillLaws
pub mod FiveLaws
pub mod Front
pub mod ListedLaws
pub mod LookLaws
pub mod DoublingLaws
pub mod Parts
pub mod RankLaws
pub mod SearchLaws
pub mod ShiftLaws
pub mod SiftLaws
pub mod TableLaws
