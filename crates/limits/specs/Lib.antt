-- What the contracts of crate `limits`, and of those above it, cite.
pub mod Batches
pub mod Floor
pub mod Refusals
pub mod Words
