-- What the contracts of crate `question` cite.
pub mod Answer
pub mod Ask
pub mod Numbered
pub mod Question
pub mod Walk
