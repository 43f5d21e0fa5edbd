-- What the contracts of crate `numbers_c` cite.
pub mod Cells
pub mod Places
