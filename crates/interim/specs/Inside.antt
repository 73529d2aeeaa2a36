-- What serves private contracts alone: no reader needs it to know how a phrase is read, or what it means.
pub mod JiffBounds
pub mod Nanoseconds
pub mod Orders
pub mod ReadAs
pub mod Reading
pub mod Resolving
pub mod Seen
