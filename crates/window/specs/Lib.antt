-- What the contracts of crate `window` cite.
pub mod Refilled
