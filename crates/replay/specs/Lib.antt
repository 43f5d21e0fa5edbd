-- What the contracts of crate `replay` cite.
pub mod Entered
pub mod Lines
pub mod Patterns
