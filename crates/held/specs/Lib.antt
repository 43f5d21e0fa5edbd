-- What a map is in lent tables: what the contracts of all calls on a map cite.
pub mod Codes
pub mod Holds
pub mod Layers
pub mod Lent
pub mod Pairs
pub mod Told
