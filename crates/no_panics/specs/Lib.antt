-- What the contracts of crate `no_panics` cite.
pub mod Casts
pub mod EdgeRows
