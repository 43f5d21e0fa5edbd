-- The laws of crate `views`.
pub mod AroundLaws
pub mod CallLaws
pub mod Determinate
pub mod FreeLaws
pub mod MarkedLaws
pub mod NeighbourLaws
pub mod SeenLaws
pub mod VisibilityLaws
pub mod WroteLaws
