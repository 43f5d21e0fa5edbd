-- The laws of crate `segment`.
pub mod AsideLaws
pub mod CrossingLaws
pub mod LendLaws
pub mod NearLaws
pub mod SearchWalk
pub mod SpanLaws
pub mod SquaredLaws
pub mod SumOfSquares
