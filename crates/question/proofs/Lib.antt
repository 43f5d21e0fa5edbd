-- The laws of crate `question`.
pub mod AskLaws
pub mod Determinate
pub mod FindLaws
pub mod NumberLaws
pub mod TakenLaws
pub mod WalkLaws
