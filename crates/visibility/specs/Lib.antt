-- What the contracts of crate `visibility` cite.
pub mod Basis
pub mod Change
pub mod Layers
pub mod Lent
pub mod Open
pub mod Radius
pub mod Redraw
pub mod Run
pub mod Told
pub mod Update
