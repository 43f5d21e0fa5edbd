-- The laws of crate `sight`.
pub mod BlockLaws
pub mod ChangeLaws
pub mod CodeLaws
pub mod EdgeLaws
pub mod JoinLaws
pub mod NearLaws
pub mod PairLaws
pub mod PointLaws
pub mod TableLaws
pub mod RunLaws
