-- The laws of crate `mapfile`.
pub mod BatchLaws
pub mod ByteLaws
pub mod Determinate
pub mod ErrLaws
pub mod FeedLaws
pub mod FieldLaws
pub mod FileLaws
pub mod FileRunLaws
pub mod HeadLaws
pub mod NumberLaws
pub mod OwnLaws
pub mod RadiusLaws
pub mod ReadLaws
pub mod ReadingLaws
pub mod TakeLaws
pub mod ValueLaws
pub mod WindowLaws
