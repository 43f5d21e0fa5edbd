-- What the contracts of crate `corner` cite.
pub mod Added
pub mod Changes
pub mod Corners
pub mod Weights
pub mod Window
