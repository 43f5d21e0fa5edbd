-- The laws of crate `batches`.
pub mod AlterLaws
pub mod BatchLaws
pub mod CommitLaws
pub mod ListedLaws
pub mod ListingLaws
pub mod PickedLaws
pub mod SetLaws
pub mod WriteLaws
