-- What the contracts of crate `report` cite.
pub mod Counted
pub mod Filed
pub mod Reported
