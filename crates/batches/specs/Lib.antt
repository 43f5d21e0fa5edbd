-- What the contracts of crate `batches`, and of those above it, cite.
pub mod Lists
