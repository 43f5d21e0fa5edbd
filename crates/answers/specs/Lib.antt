-- What the contracts of crate `answers` cite.
pub mod Asking
pub mod Asks
pub mod CellLists
pub mod Columns
pub mod Found
pub mod PairLists
pub mod Told
pub mod Walks
