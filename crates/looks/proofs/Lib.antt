-- The laws of crate `looks`.
pub mod NamedLaws
pub mod TestLaws
