-- What the contracts of crate `marks` cite.
pub mod Marked
pub mod Standing
