-- The laws of crate `limits`.
pub mod EntryLaws
pub mod Examples
pub mod FloorLaws
pub mod RadiusLaws
pub mod RefusalLaws
pub mod SignedLaws
pub mod SizeLaws
pub mod WordLaws
