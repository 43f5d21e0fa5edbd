-- The laws of crate `marks`.
pub mod BeginLaws
pub mod EndingLaws
pub mod GatherLaws
pub mod MoodLaws
pub mod PointsLaws
pub mod RunLaws
pub mod StandLaws
pub mod StandingLaws
pub mod WordsLaws
