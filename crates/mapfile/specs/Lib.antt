-- What the contracts of crate `mapfile` cite, and runs of its calls.
pub mod Feeds
pub mod Fields
pub mod Files
pub mod Moves
pub mod Reads
pub mod Told
pub mod Windows
