-- The laws of crate `no_panics`.
pub mod CastExamples
pub mod Casts
pub mod Crossings
pub mod EdgeRows
pub mod Ladder
pub mod Own
pub mod PointRows
pub mod RowExamples
pub mod SameRows
pub mod Strips
