-- What the contracts of crate `views` cite.
pub mod Seen
pub mod Kept
