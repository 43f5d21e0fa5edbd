-- What the contracts of crate `intake` cite.
pub mod Showed
pub mod Shown
pub mod Taken
