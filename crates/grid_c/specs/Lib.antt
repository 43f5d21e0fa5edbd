-- What the contracts of crate `grid_c` cite.
pub mod Called
pub mod Told
