-- What the contracts of crate `segment` cite.
pub mod Crossing
pub mod Many
pub mod Near
pub mod Search
pub mod Spans
pub mod Squared
pub mod Values
