-- What the contracts of crate `plane` cite.
pub mod Edge
pub mod Values
