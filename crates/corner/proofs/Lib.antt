-- The laws of crate `corner`.
pub mod AddedLaws
pub mod CellsLaws
pub mod ChangeLaws
pub mod CornersLaws
pub mod MetLaws
pub mod RowLaws
pub mod StatusLaws
pub mod WindowLaws
pub mod WordLaws
