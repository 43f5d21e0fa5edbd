-- What the contracts of program `listing_vectors` cite.
pub mod Names
