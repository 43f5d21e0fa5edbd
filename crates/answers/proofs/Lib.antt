-- The laws of crate `answers`.
pub mod AskLaws
pub mod CellLaws
pub mod Determinate
pub mod FoundLaws
pub mod GrowLaws
pub mod KeepLaws
pub mod ListingLaws
pub mod PairLaws
pub mod PassedLaws
pub mod PointLaws
pub mod ReadLaws
pub mod RefuseLaws
pub mod RowLaws
