-- What the contracts of crate `grid` cite.
pub mod Change
