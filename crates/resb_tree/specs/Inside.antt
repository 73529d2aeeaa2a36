-- What serves private contracts alone: no reader needs it to know what the crate does.
pub mod Bytes
pub mod Counts
pub mod Forms
pub mod KeyPlaces
pub mod Left
pub mod Parts
pub mod Places
pub mod Slots
pub mod Spans
pub mod Walk
