-- What the contracts of crate `ask_c` cite.
pub mod Told
