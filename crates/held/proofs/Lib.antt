-- The laws of crate `held`.
pub mod Determinate
pub mod LayerLaws
pub mod NamedLaws
pub mod PadLaws
pub mod PlaceLaws
pub mod RoomLaws
