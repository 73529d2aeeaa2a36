-- What serves private contracts alone: no reader needs it to know what the crate does.
pub mod LeapDays
pub mod Years
